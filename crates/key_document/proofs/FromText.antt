-- The key of a value, written part by part from its text.
use Rattle.std.proofs.Common.{◌≡◌, ◌≢◌, ℕ, suc, ◌+◌, ◌-◌, ◌<◌, ◌≤◌, inl, inr, true, false, List, [], ◌∷◌, ◌++◌, length, drop, replicate, unsigned_abs, sym, ap, ap₂, subst, ◌∙◌, arith, append_assoc, append-nil, length-append}
use Rattle.std.proofs.Math.Seq.{drop-append_seam}
use Rattle.jsonb_spec.specs.SortKey.Readable.{IsReadable}
use Rattle.jsonb_spec.specs.SortKey.{key_of, number_key}
use Rattle.jsonb_spec.specs.Text.{tree_text}
use Rattle.jsonb_spec.specs.Text.NumberText.{number_text}
use Rattle.jsonb_spec.specs.Tree.{Tree}
use Rattle.std.proofs.lemmas.Bool.{cases_lt}
use Rattle.jsonb_spec.specs.Text.StringText.{quoted_text}
use Rattle.jsonb_core.proofs.Appending.Appended.{IsUnderway, fits}
use Rattle.jsonb_core.proofs.SortKeys.Kinds.{is_small, number_begins}
use Rattle.jsonb_spec.specs.Document.Counts.{counts_at}
use Rattle.jsonb_spec.specs.SortKey.FewestDigits.{spare_zeros}
use Rattle.key_zeros.proofs.Decimals.{text_begins}
use Rattle.jsonb_spec.specs.Document.Scan.{is_number_byte}
use Rattle.jsonb_spec.specs.Document.Zeros.{zeros_of}
use Rattle.jsonb_spec.specs.Document.{zeros_at}
use Rattle.key_document.specs.FromText.{mark_behind, mark_key, string_key}
use Rattle.key_document.specs.Tokens.{Token, tokens_text, tokens_key, tokens_counts, AreTokens, FindsZeros, ZerosFrom}
use Rattle.key_document.specs.declared.from_text.FirstZeros.{FirstZeros}
use Rattle.key_document.proofs.Tokens.{tokens_of, string_text, text_written, are_tokens, key_written, counts_written, StringFirst, NumberFirst, MarkFirst, string_first, number_first, mark_first, none_left_of}
use Rattle.key_zeros.proofs.Taking.{zeros_behind_plain}

-- the parts of a value's text
pub whole_text : (t : Tree) → IsReadable t → tree_text t ≡ tokens_text (tokens_of t [])
whole_text t r = sym (text_written t 512 r.within [] ∙ append-nil (tree_text t))

pub whole_key : (t : Tree) → IsReadable t → key_of t ≡ tokens_key (tokens_of t [])
whole_key t r = sym (key_written t 512 r.within [] tt ∙ append-nil (key_of t))

pub whole_counts : (t : Tree) → IsReadable t → counts_at t ≡ tokens_counts (tokens_of t [])
whole_counts t r = sym (counts_written t 512 r.within [] tt ∙ append-nil (counts_at t))

-- a piece more is appended
abbrev onward : (old now text left new piece rest : List ℕ) → IsUnderway old now text left → left ≡ piece ++ rest → new ≡ now ++ piece → IsUnderway old new text rest
onward old now text left new piece rest u split more = record {
  front = u.front ++ piece;
  appended = more ∙ ap (λ l. l ++ piece) u.appended ∙ append_assoc old u.front piece;
  whole = u.whole ∙ ap (λ l. u.front ++ l) split ∙ sym (append_assoc u.front piece rest);
}

-- What is left of a text, and of the key of the rest of which is written. Where no zeros were seen, all zeros are those of
-- what is left.
pub record PartsLeft (t : Tree) (text rest : List ℕ) (zeros : FirstZeros) (old now : List ℕ) : Type 0 where
  pub tokens : List Token
  pub are : AreTokens tokens
  pub gone : List ℕ
  pub is_text : text ≡ gone ++ tokens_text tokens
  pub occurs : rest ≡ tokens_text tokens
  pub underway : IsUnderway old now (key_of t) (tokens_key tokens)
  pub none : zeros.left ≡ 0 → zeros_at t ≡ zeros_of (length underway.front) (tokens_counts tokens)
  pub some : 0 < zeros.left → ZerosFrom t text (length old) zeros

abbrev pub WritesParts : List ℕ → List ℕ → FirstZeros → List ℕ → List ℕ → Type 0
WritesParts text rest zeros old now = (t : Tree) → IsReadable t → text ≡ tree_text t → PartsLeft t text rest zeros old now

pub parts_begun : (text old : List ℕ) (zeros : FirstZeros) → zeros.left ≡ 0 → WritesParts text text zeros old old
parts_begun text old zeros nothing = λ t r e. record {
  tokens = tokens_of t [];
  are = are_tokens t r.proper [] tt tt;
  gone = [];
  is_text = e ∙ whole_text t r;
  occurs = e ∙ whole_text t r;
  underway = record { front = []; appended = sym (append-nil old); whole = whole_key t r };
  none = λ no. ap (zeros_of 0) (whole_counts t r);
  some = λ more. absurd (omega (arith, nothing, more));
}

module _ (text rest : List ℕ) (zeros : FirstZeros) (old now : List ℕ) (so_far : WritesParts text rest zeros old now) (first : ℕ) (others : List ℕ) (is : rest ≡ first ∷ others) (t : Tree) (r : IsReadable t) (e : text ≡ tree_text t) where
  pub left : PartsLeft t text rest zeros old now
  left = so_far t r e

  there : first ∷ others ≡ tokens_text left.tokens
  there = sym is ∙ left.occurs

  more_gone : (later : List Token) (piece : List ℕ) → tokens_text left.tokens ≡ piece ++ tokens_text later → text ≡ (left.gone ++ piece) ++ tokens_text later
  more_gone later piece split = left.is_text ∙ ap (λ l. left.gone ++ l) split ∙ sym (append_assoc left.gone piece (tokens_text later))

  more_front : (piece : List ℕ) (counts : List ℕ) → zeros_of (length left.underway.front) (replicate (length piece) 0 ++ counts) ≡ zeros_of (length (left.underway.front ++ piece)) counts
  more_front piece counts = zeros_behind_plain (length piece) (length left.underway.front) counts ∙ ap (λ n. zeros_of n counts) (sym (length-append left.underway.front piece))

  -- a string
  module _ (quote : first ≡ 34) where
    pub a_string : StringFirst left.tokens others
    a_string = string_first left.tokens left.are first others there quote

    string_split : tokens_key left.tokens ≡ string_key (tokens_text a_string.later) a_string.text ++ tokens_key a_string.later
    string_split = ap tokens_key a_string.is

    pub string_fits : length now + length (string_key (tokens_text a_string.later) a_string.text) ≤ length old + length (key_of t)
    string_fits = fits (string_key (tokens_text a_string.later) a_string.text) (tokens_key a_string.later) left.underway string_split

    pub string_written : (behind new : List ℕ) → behind ≡ tokens_text a_string.later → new ≡ now ++ string_key (tokens_text a_string.later) a_string.text → PartsLeft t text behind zeros old new
    string_written behind new same more = record {
      tokens = a_string.later;
      are = a_string.are;
      occurs = same;
      underway = onward old now (key_of t) (tokens_key left.tokens) new (string_key (tokens_text a_string.later) a_string.text) (tokens_key a_string.later) left.underway string_split more;
      gone = left.gone ++ quoted_text a_string.text;
      is_text = more_gone a_string.later (quoted_text a_string.text) (ap tokens_text a_string.is ∙ string_text a_string.text (tokens_text a_string.later));
      none = λ no. left.none no ∙ ap (λ l. zeros_of (length left.underway.front) (tokens_counts l)) a_string.is ∙ more_front (string_key (tokens_text a_string.later) a_string.text) (tokens_counts a_string.later);
      some = left.some;
    }

  -- a number
  module _ (digit : is_number_byte first ≡ true) where
    pub a_number : NumberFirst left.tokens (first ∷ others)
    a_number = number_first left.tokens left.are first others there digit

    number_split : tokens_key left.tokens ≡ number_key a_number.value ++ tokens_key a_number.later
    number_split = ap tokens_key a_number.is

    pub number_there : rest ≡ number_text a_number.value ++ tokens_text a_number.later
    number_there = is ∙ a_number.occurs

    pub number_shorter : (behind : List ℕ) → behind ≡ tokens_text a_number.later → length behind < length rest
    number_shorter behind same =
        let b = text_begins a_number.value a_number.proper in
        omega (arith, ap length same, ap length number_there, length-append (number_text a_number.value) (tokens_text a_number.later), ap length b.is)

    pub number_fits : length now + length (number_key a_number.value) ≤ length old + length (key_of t)
    number_fits = fits (number_key a_number.value) (tokens_key a_number.later) left.underway number_split

    abbrev count : ℕ
    count = spare_zeros a_number.value.scale (unsigned_abs a_number.value.whole)

    number_long : 0 < length (number_key a_number.value)
    number_long = let b = number_begins a_number.value (is_small a_number.value a_number.proper) in omega (arith, ap length b.is)

    -- without zeros
    number_plain : count ≡ 0 → zeros_of (length left.underway.front) (tokens_counts left.tokens) ≡ zeros_of (length (left.underway.front ++ number_key a_number.value)) (tokens_counts a_number.later)
    number_plain none =
        let size = length (number_key a_number.value) - 1 in
        let whole : suc size ≡ length (number_key a_number.value) = omega (arith, number_long) in
        ap (λ l. zeros_of (length left.underway.front) (tokens_counts l)) a_number.is
        ∙ ap (λ n. zeros_of (length left.underway.front) (n ∷ (replicate size 0 ++ tokens_counts a_number.later))) none
        ∙ ap (λ n. zeros_of (length left.underway.front) (replicate n 0 ++ tokens_counts a_number.later)) whole
        ∙ more_front (number_key a_number.value) (tokens_counts a_number.later)

    -- with the first zeros of all
    here : zeros.left ≡ 0 → (later : FirstZeros) → later.left ≡ length rest → later.at ≡ length now → ZerosFrom t text (length old) later
    here none later all at = record {
      tokens = left.tokens;
      are = left.are;
      within = omega (arith, all, ap length left.is_text, length-append left.gone (tokens_text left.tokens), ap length left.occurs);
      occurs =
          let gone : length text - later.left ≡ length left.gone = omega (arith, all, ap length left.is_text, length-append left.gone (tokens_text left.tokens), ap length left.occurs) in
          ap₂ drop gone left.is_text ∙ drop-append_seam left.gone (tokens_text left.tokens);
      front = left.underway.front;
      key_is = left.underway.whole;
      at_is = omega (arith, at, ap length left.underway.appended, length-append old left.underway.front);
      zeros_are = left.none none;
    }

    pub number_written : (behind new : List ℕ) (later : FirstZeros) (more_count : ℕ) → behind ≡ tokens_text a_number.later → new ≡ now ++ number_key a_number.value → more_count ≡ spare_zeros a_number.value.scale (unsigned_abs a_number.value.whole)
        → (0 < zeros.left → later ≡ zeros) → (more_count ≡ 0 → later ≡ zeros) → (zeros.left ≡ 0 → 0 < more_count → (later.left ≡ length rest) × (later.at ≡ length now)) → PartsLeft t text behind later old new
    number_written behind new later more_count same more counted kept nothing found = record {
      tokens = a_number.later;
      are = a_number.are;
      gone = left.gone ++ number_text a_number.value;
      is_text = more_gone a_number.later (number_text a_number.value) (ap tokens_text a_number.is);
      occurs = same;
      underway = onward old now (key_of t) (tokens_key left.tokens) new (number_key a_number.value) (tokens_key a_number.later) left.underway number_split more;
      none = λ no. elim (cases_lt 0 zeros.left) [
        | inl some ↦ absurd (omega (arith, some, no, ap (λ z. z.left) (kept some)))
        | inr none ↦ elim (cases_lt 0 more_count) [
          | inl some ↦ absurd (omega (arith, no, (found (omega (arith, none)) some).0, ap length left.occurs, ap length (sym is), ap length there))
          | inr few ↦ left.none (omega (arith, none)) ∙ number_plain (omega (arith, counted, few))
        ]
      ];
      some = λ some. elim (cases_lt 0 zeros.left) [
        | inl before ↦ subst (λ z. ZerosFrom t text (length old) z) (sym (kept before)) (left.some before)
        | inr none ↦ elim (cases_lt 0 more_count) [
          | inl now_some ↦ let f = found (omega (arith, none)) now_some in here (omega (arith, none)) later f.0 f.1
          | inr few ↦ absurd (omega (arith, some, none, ap (λ z. z.left) (nothing (omega (arith, few)))))
        ]
      ];
    }

  -- what is neither
  module _ (other : first ≢ 34) (no_digit : is_number_byte first ≡ false) where
    pub a_mark : MarkFirst left.tokens first others
    a_mark = mark_first left.tokens left.are first others there other no_digit

    mark_split : tokens_key left.tokens ≡ mark_key first ++ tokens_key a_mark.later
    mark_split = ap tokens_key a_mark.is

    pub mark_fits : length now + length (mark_key first) ≤ length old + length (key_of t)
    mark_fits = fits (mark_key first) (tokens_key a_mark.later) left.underway mark_split

    pub mark_long : mark_behind first ≤ length others
    mark_long = omega (arith, a_mark.long, ap length a_mark.occurs, length-append a_mark.tail (tokens_text a_mark.later))

    pub mark_written : (size : ℕ) (behind new : List ℕ) → size ≡ mark_behind first → behind ≡ drop size others → new ≡ now ++ mark_key first → PartsLeft t text behind zeros old new
    mark_written size behind new long same more = record {
      tokens = a_mark.later;
      are = a_mark.are;
      occurs = same ∙ ap₂ drop (long ∙ sym a_mark.long) a_mark.occurs ∙ drop-append_seam a_mark.tail (tokens_text a_mark.later);
      underway = onward old now (key_of t) (tokens_key left.tokens) new (mark_key first) (tokens_key a_mark.later) left.underway mark_split more;
      gone = left.gone ++ first ∷ a_mark.tail;
      is_text = more_gone a_mark.later (first ∷ a_mark.tail) (ap tokens_text a_mark.is);
      none = λ no. left.none no ∙ ap (λ l. zeros_of (length left.underway.front) (tokens_counts l)) a_mark.is ∙ more_front (mark_key first) (tokens_counts a_mark.later);
      some = left.some;
    }

-- all is written
pub all_written : (text rest : List ℕ) (zeros : FirstZeros) (old now : List ℕ) (start : ℕ) → WritesParts text rest zeros old now → length rest ≡ 0 → start ≡ length old → (t : Tree) → IsReadable t → text ≡ tree_text t → FindsZeros t text start zeros × (now ≡ old ++ key_of t)
all_written text rest zeros old now start so_far over begins t r e =
    let l = so_far t r e in
    let none = none_left_of l.tokens l.are (sym (ap length l.occurs) ∙ over) in (
      record { none = λ no. l.none no ∙ ap (λ ts. zeros_of (length l.underway.front) (tokens_counts ts)) none; some = λ some. subst (λ n. ZerosFrom t text n zeros) (sym begins) (l.some some) },
      l.underway.appended ∙ ap (λ x. old ++ x) (sym (l.underway.whole ∙ ap (λ ts. l.underway.front ++ tokens_key ts) none ∙ append-nil l.underway.front)),
    )

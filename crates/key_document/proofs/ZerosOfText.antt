-- The zeros of the parts of a text, appended behind their keys.
use Rattle.std.proofs.Common.{◌≡◌, ◌≢◌, ℕ, suc, ◌+◌, ◌-◌, ◌^◌, ◌<◌, ◌≤◌, ◌==◌, Bool, true, false, List, ◌∷◌, ◌++◌, length, drop, replicate, unsigned_abs, if◌then◌else◌, refl, sym, ap, ap₂, subst, ◌∙◌, arith, append_assoc, append-nil, length-append}
use Rattle.std.proofs.Math.Seq.{drop-append_seam}
use Rattle.jsonb_spec.specs.SortKey.{number_key}
use Rattle.jsonb_spec.specs.Text.NumberText.{number_text}
use Rattle.jsonb_core.proofs.Appending.Appended.{IsUnderway, begun, goes_on, fits}
use Rattle.jsonb_core.proofs.SortKeys.Kinds.{is_small, number_begins}
use Rattle.jsonb_spec.specs.SortKey.FewestDigits.{spare_zeros}
use Rattle.key_zeros.proofs.Decimals.{text_begins}
use Rattle.jsonb_spec.specs.Document.Scan.{is_number_byte}
use Rattle.jsonb_spec.specs.Document.Zeros.{entry_of, plain_behind, zeros_of}
use Rattle.key_document.specs.FromText.{mark_behind, mark_key, string_key}
use Rattle.key_document.specs.Tokens.{Token, tokens_text, tokens_key, tokens_counts, AreTokens}
use Rattle.key_document.proofs.Tokens.{StringFirst, NumberFirst, MarkFirst, string_first, number_first, mark_first, none_left_of}
use Rattle.key_zeros.proofs.Taking.{zeros_behind_plain}

-- What is left of parts whose keys are in the buffer, and of their zeros, of which the rest is written.
pub record ZerosLeft (front : List ℕ) (tokens : List Token) (begun_plain : ℕ) (rest : List ℕ) (at plain : ℕ) (old now : List ℕ) : Type 0 where
  pub left : List Token
  pub are : AreTokens left
  pub occurs : rest ≡ tokens_text left
  pub gone : List ℕ
  pub key_is : front ++ tokens_key tokens ≡ gone ++ tokens_key left
  pub at_is : at ≡ length gone
  pub underway : IsUnderway old now (zeros_of begun_plain (tokens_counts tokens)) (zeros_of plain (tokens_counts left))
  pub fit : plain + length (tokens_key left) < 2 ^ 63

abbrev pub WritesZeros : List ℕ → ℕ → ℕ → List ℕ → List ℕ → ℕ → ℕ → List ℕ → Type 0
WritesZeros text begun_at begun_plain old rest at plain now = (tokens : List Token) → AreTokens tokens → text ≡ tokens_text tokens → (front : List ℕ) → old ≡ front ++ tokens_key tokens → begun_at ≡ length front → begun_plain + length (tokens_key tokens) < 2 ^ 63
    → ZerosLeft front tokens begun_plain rest at plain old now

pub zeros_begun : (text : List ℕ) (at plain : ℕ) (old : List ℕ) → WritesZeros text at plain old text at plain old
zeros_begun text at plain old = λ tokens a e front k f fit. record {
  left = tokens;
  are = a;
  occurs = e;
  gone = front;
  key_is = refl;
  at_is = f;
  underway = begun old (zeros_of plain (tokens_counts tokens));
  fit = fit;
}

either_less : (test : Bool) (x y m : ℕ) → x ≤ m → y ≤ m → (if test then x else y) ≤ m
either_less true x y m p q = p
either_less false x y m p q = q

-- no more come before the next number
behind_less : (plain count : ℕ) → plain_behind plain count ≤ plain + 1
behind_less plain count = either_less (count == 0) (suc plain) 0 (plain + 1) (omega arith) (omega arith)

module _ (text : List ℕ) (begun_at begun_plain : ℕ) (old rest : List ℕ) (at plain : ℕ) (now : List ℕ) (so_far : WritesZeros text begun_at begun_plain old rest at plain now) (first : ℕ) (others : List ℕ) (is : rest ≡ first ∷ others)
    (tokens : List Token) (a : AreTokens tokens) (e : text ≡ tokens_text tokens) (front : List ℕ) (k : old ≡ front ++ tokens_key tokens) (f : begun_at ≡ length front) (fit : begun_plain + length (tokens_key tokens) < 2 ^ 63) where
  pub left : ZerosLeft front tokens begun_plain rest at plain old now
  left = so_far tokens a e front k f fit

  there : first ∷ others ≡ tokens_text left.left
  there = sym is ∙ left.occurs

  -- Bytes of a key without zeros are passed.
  module _ (piece : List ℕ) (later : List Token) (split : tokens_key left.left ≡ piece ++ tokens_key later) where
    pub piece_fits : (size : ℕ) → size ≡ length piece → (at + size ≤ length old) × (plain + size < 2 ^ 63)
    piece_fits size long = (
      omega (arith, long, left.at_is, ap length k, ap length left.key_is, length-append left.gone (tokens_key left.left), ap length split, length-append piece (tokens_key later)),
      omega (arith, long, left.fit, ap length split, length-append piece (tokens_key later)),
    )

    plain_passed : AreTokens later → tokens_counts left.left ≡ replicate (length piece) 0 ++ tokens_counts later → (behind : List ℕ) (size more_at more_plain : ℕ) → behind ≡ tokens_text later → size ≡ length piece → more_at ≡ at + size → more_plain ≡ plain + size
        → ZerosLeft front tokens begun_plain behind more_at more_plain old now
    plain_passed are counts behind size more_at more_plain same long at_now plain_now = record {
      left = later;
      are = are;
      occurs = same;
      gone = left.gone ++ piece;
      key_is = left.key_is ∙ ap (λ l. left.gone ++ l) split ∙ sym (append_assoc left.gone piece (tokens_key later));
      at_is = omega (arith, at_now, long, left.at_is, length-append left.gone piece);
      underway = subst (λ l. IsUnderway old now (zeros_of begun_plain (tokens_counts tokens)) l)
          (ap (zeros_of plain) counts ∙ zeros_behind_plain (length piece) plain (tokens_counts later) ∙ ap (λ n. zeros_of n (tokens_counts later)) (omega (arith, plain_now, long))) left.underway;
      fit = omega (arith, plain_now, long, left.fit, ap length split, length-append piece (tokens_key later));
    }

  -- a string
  module _ (quote : first ≡ 34) where
    pub a_string : StringFirst left.left others
    a_string = string_first left.left left.are first others there quote

    pub string_bound : (size : ℕ) → size ≡ length (string_key (tokens_text a_string.later) a_string.text) → (at + size ≤ length old) × (plain + size < 2 ^ 63)
    string_bound size long = piece_fits (string_key (tokens_text a_string.later) a_string.text) a_string.later (ap tokens_key a_string.is) size long

    pub string_passed : (behind : List ℕ) (size more_at more_plain : ℕ) → behind ≡ tokens_text a_string.later → size ≡ length (string_key (tokens_text a_string.later) a_string.text) → more_at ≡ at + size → more_plain ≡ plain + size
        → ZerosLeft front tokens begun_plain behind more_at more_plain old now
    string_passed behind size more_at more_plain same long at_now plain_now =
        plain_passed (string_key (tokens_text a_string.later) a_string.text) a_string.later (ap tokens_key a_string.is) a_string.are (ap tokens_counts a_string.is) behind size more_at more_plain same long at_now plain_now

  -- a number
  module _ (digit : is_number_byte first ≡ true) where
    pub a_number : NumberFirst left.left (first ∷ others)
    a_number = number_first left.left left.are first others there digit

    abbrev pub count : ℕ
    count = spare_zeros a_number.value.scale (unsigned_abs a_number.value.whole)

    pub number_there : rest ≡ number_text a_number.value ++ tokens_text a_number.later
    number_there = is ∙ a_number.occurs

    pub number_shorter : (behind : List ℕ) → behind ≡ tokens_text a_number.later → length behind < length rest
    number_shorter behind same =
        let b = text_begins a_number.value a_number.proper in
        omega (arith, ap length same, ap length number_there, length-append (number_text a_number.value) (tokens_text a_number.later), ap length b.is)

    key_split : tokens_key left.left ≡ number_key a_number.value ++ tokens_key a_number.later
    key_split = ap tokens_key a_number.is

    pub number_bound : (size : ℕ) → size ≡ length (number_key a_number.value) → (at + size ≤ length old) × (plain + size < 2 ^ 63)
    number_bound size long = piece_fits (number_key a_number.value) a_number.later key_split size long

    pub number_some : 0 < length (number_key a_number.value)
    number_some = let b = number_begins a_number.value (is_small a_number.value a_number.proper) in omega (arith, ap length b.is)

    -- its key is in the buffer
    pub key_there : now ≡ left.gone ++ (number_key a_number.value ++ (tokens_key a_number.later ++ left.underway.front))
    key_there =
        left.underway.appended ∙ ap (λ l. l ++ left.underway.front) (k ∙ left.key_is ∙ ap (λ l. left.gone ++ l) key_split)
        ∙ append_assoc left.gone (number_key a_number.value ++ tokens_key a_number.later) left.underway.front
        ∙ ap (λ l. left.gone ++ l) (append_assoc (number_key a_number.value) (tokens_key a_number.later) left.underway.front)

    zeros_split : (size : ℕ) → size ≡ length (number_key a_number.value) → zeros_of plain (tokens_counts left.left) ≡ entry_of plain count ++ zeros_of (plain_behind plain count + (size - 1)) (tokens_counts a_number.later)
    zeros_split size long =
        ap (λ l. zeros_of plain (tokens_counts l)) a_number.is
        ∙ ap (λ n. entry_of plain count ++ zeros_of (plain_behind plain count) (replicate (n - 1) 0 ++ tokens_counts a_number.later)) (sym long)
        ∙ ap (λ l. entry_of plain count ++ l) (zeros_behind_plain (size - 1) (plain_behind plain count) (tokens_counts a_number.later))

    pub entry_fits : (size : ℕ) → size ≡ length (number_key a_number.value) → length now + length (entry_of plain count) ≤ length old + length (zeros_of begun_plain (tokens_counts tokens))
    entry_fits size long = fits (entry_of plain count) (zeros_of (plain_behind plain count + (size - 1)) (tokens_counts a_number.later)) left.underway (zeros_split size long)

    pub number_passed : (behind new : List ℕ) (size more_at more_plain : ℕ) → behind ≡ tokens_text a_number.later → size ≡ length (number_key a_number.value) → more_at ≡ at + size → more_plain ≡ plain_behind plain count + (size - 1) → new ≡ now ++ entry_of plain count
        → ZerosLeft front tokens begun_plain behind more_at more_plain old new
    number_passed behind new size more_at more_plain same long at_now plain_now more = record {
      left = a_number.later;
      are = a_number.are;
      occurs = same;
      gone = left.gone ++ number_key a_number.value;
      key_is = left.key_is ∙ ap (λ l. left.gone ++ l) key_split ∙ sym (append_assoc left.gone (number_key a_number.value) (tokens_key a_number.later));
      at_is = omega (arith, at_now, long, left.at_is, length-append left.gone (number_key a_number.value));
      underway = goes_on new (entry_of plain count) (zeros_of more_plain (tokens_counts a_number.later)) left.underway
          (zeros_split size long ∙ ap (λ n. entry_of plain count ++ zeros_of n (tokens_counts a_number.later)) (sym plain_now)) more;
      fit = omega (arith, plain_now, long, number_some, behind_less plain count, left.fit, ap length key_split, length-append (number_key a_number.value) (tokens_key a_number.later));
    }

  -- what is neither
  module _ (other : first ≢ 34) (no_digit : is_number_byte first ≡ false) where
    pub a_mark : MarkFirst left.left first others
    a_mark = mark_first left.left left.are first others there other no_digit

    pub mark_bound : (size : ℕ) → size ≡ length (mark_key first) → (at + size ≤ length old) × (plain + size < 2 ^ 63)
    mark_bound size long = piece_fits (mark_key first) a_mark.later (ap tokens_key a_mark.is) size long

    pub mark_long : mark_behind first ≤ length others
    mark_long = omega (arith, a_mark.long, ap length a_mark.occurs, length-append a_mark.tail (tokens_text a_mark.later))

    pub mark_passed : (behind : List ℕ) (tail size more_at more_plain : ℕ) → tail ≡ mark_behind first → behind ≡ drop tail others → size ≡ length (mark_key first) → more_at ≡ at + size → more_plain ≡ plain + size
        → ZerosLeft front tokens begun_plain behind more_at more_plain old now
    mark_passed behind tail size more_at more_plain tail_is same long at_now plain_now =
        plain_passed (mark_key first) a_mark.later (ap tokens_key a_mark.is) a_mark.are (ap tokens_counts a_mark.is) behind size more_at more_plain
        (same ∙ ap₂ drop (tail_is ∙ sym a_mark.long) a_mark.occurs ∙ drop-append_seam a_mark.tail (tokens_text a_mark.later)) long at_now plain_now

-- all are written
pub zeros_written : (text : List ℕ) (begun_at begun_plain : ℕ) (old rest : List ℕ) (at plain : ℕ) (now : List ℕ) → WritesZeros text begun_at begun_plain old rest at plain now → length rest ≡ 0
    → (tokens : List Token) → AreTokens tokens → text ≡ tokens_text tokens → (front : List ℕ) → old ≡ front ++ tokens_key tokens → begun_at ≡ length front → begun_plain + length (tokens_key tokens) < 2 ^ 63 → now ≡ old ++ zeros_of begun_plain (tokens_counts tokens)
zeros_written text begun_at begun_plain old rest at plain now so_far over tokens a e front k f fit =
    let l = so_far tokens a e front k f fit in
    let none = none_left_of l.left l.are (sym (ap length l.occurs) ∙ over) in
    l.underway.appended ∙ ap (λ x. old ++ x) (sym (l.underway.whole ∙ ap (λ ts. l.underway.front ++ zeros_of plain (tokens_counts ts)) none ∙ append-nil l.underway.front))

-- What is parsed of a scalar or a key is derived, and what is derived is parsed.
use Rattle.std.proofs.Common.{◌≡◌, ◌≢◌, ℕ, true, false, true≢false, inl, inr, List, [], ◌∷◌, ◌++◌, codes, cond, map, Result, Ok, Err, refl, sym, ap, ap₂, subst, ◌∙◌, eqb, eqb-true, eq-eqb, ne_eqb, ltb, lt-ltb, ◌||◌, ◌⊎◌, ⊎_elim, ◌+◌, ◌<◌, ◌≤◌, arith}
use Rattle.std.proofs.lemmas.Bool.Decides.{nat_tests}
use Rattle.std.proofs.lemmas.Bool.{cases_Bool, cond-false, cond-true, or_cases, or_from}
use Rattle.std.specs.Char.{digit_value, is_ascii_digit, to_ascii_lowercase}
use Rattle.jsonb_spec.specs.Grammar.BareKey.{IsBareKey}
use Rattle.jsonb_spec.specs.Code.Code.{expected_some_ident, expected_some_value}
use Rattle.jsonb_spec.specs.Mode.{Mode, Strictness, strict, lenient, strictness, IsLenient}
use Rattle.jsonb_spec.specs.Grammar.Quoted.{Quoted}
use Rattle.jsonb_spec.specs.Grammar.Scalar.{IsKey, IsLiteral, IsNumber, IsQuote, IsScalar, IsWord}
use Rattle.jsonb_spec.specs.Grammar.Scalar.IsKey.{bare_key, quoted_key}
use Rattle.jsonb_spec.specs.Grammar.Scalar.IsLiteral.{false_word, null_word, true_word}
use Rattle.jsonb_spec.specs.Grammar.Scalar.IsScalar.{literal_value, number_value, string_value}
use Rattle.jsonb_spec.specs.Grammar.StandardNumber.{IsExponentMark}
use Rattle.jsonb_spec.specs.Tree.{Mark, plain, Num, Tree}
use Rattle.jsonb_spec.specs.Tree.Tree.{boolean, null, number, string}
use Rattle.jsonb_spec.specs.Parsing.{Fault, Parse, begins, on_byte, reject, ◌>>=◌}
use Rattle.jsonb_spec.specs.Parsing.BareKey.{bare_key_at, key_step}
use Rattle.jsonb_spec.specs.Parsing.Whitespace.{is_whitespace_start, is_break}
use Rattle.jsonb_spec.specs.Parsing.ExtendedNumber.{EndsExtended, ContinuesNumberExtended}
use Rattle.jsonb_spec.specs.Parsing.Number.{IsNumberBoundary, ContinuesNumber, is_number_start}
use Rattle.jsonb_spec.specs.Parsing.Scalar.{begins_letter, begins_number, false_at, fold_letter, key_at, letters_at, null_at, null_or, number_at, number_or_fault, number_value_at, on_letter, on_single_quote, or_else, quoted_at, scalar_at, true_or_false_at, unquoted_at, word_at, words_at}
use Rattle.jsonb_spec.specs.Parsing.String.{string_at}
use Rattle.text_scan.proofs.Strings.BareKeys.{bare_complete, bare_sound, bare_starts, break_stops}
use Rattle.text_scan.proofs.Steps.Tests.{bind_ok, chosen, rejected_fails, same_read}
use Rattle.text_scan.proofs.Numbers.Extended.{OpensNumber}
use Rattle.text_scan.proofs.Numbers.Read.{number_complete_of, number_sound_of, number_starts_of}
use Rattle.text_scan.proofs.Numbers.Reading.{EndsNumber}
use Rattle.text_scan.proofs.Containers.JoinedParts.{Ends, IsComplete, IsSound, Encoded, Starts, break_is, on_byte-found, on_byte-other, on_byte_cases}
use Rattle.text_scan.proofs.Strings.Ends.{string_complete, string_sound}
use Rattle.jsonb_core.proofs.Trees.TextsReadBack.{double_quote}

-- The text is empty, or begins with a byte that may follow a value.
pub data Follows : List ℕ → Type 0 where
  no_more : Follows []
  before : {bytes : List ℕ} → Ends bytes → Follows bytes

-- The text begins with a byte that begins a scalar.
pub record StartsScalar (bytes : List ℕ) : Type 0 where
  pub first : ℕ
  pub others : List ℕ
  pub whole : bytes ≡ first ∷ others
  pub is_start : is_break first ≡ false
  pub bracket : eqb first 91 ≡ false
  pub brace : eqb first 123 ≡ false

-- the tree is a number
abbrev pub IsNumberTree : Tree → Type 0
IsNumberTree (number n) = Unit {0}
IsNumberTree other = ⊥

-- ---- words

-- the letters that were parsed, and what follows
pub record LettersRead (strictness : Strictness) (word bytes rest : List ℕ) : Type 0 where
  pub letters : List ℕ
  pub is_word : IsWord strictness word letters
  pub whole : bytes ≡ letters ++ rest

pub on_letter_cases : {X : Type 0} (strictness : Strictness) (c : ℕ) (bytes : List ℕ) (found : List ℕ → X) (other z : X) → on_letter strictness c bytes found other ≡ z
    → ((b : ℕ) × (rest : List ℕ) × (bytes ≡ b ∷ rest) × (fold_letter strictness b ≡ c) × (found rest ≡ z)) ⊎ ((begins_letter strictness c bytes ≡ false) × (other ≡ z))
on_letter_cases strictness c [] found other z e = inr (refl, e)
on_letter_cases strictness c (b ∷ bytes) found other z e =
    elim (chosen (eqb (fold_letter strictness b) c) (found bytes) other z e) [
      | inl t ↦ inl (b, bytes, refl, eqb-true (fold_letter strictness b) c t.0, t.1)
      | inr f ↦ inr (cond-false (eqb (fold_letter strictness b) c) true false f.0, f.1)
    ]

on_letter-found : {X : Type 0} (strictness : Strictness) (c b : ℕ) (rest : List ℕ) (found : List ℕ → X) (other : X) → fold_letter strictness b ≡ c → on_letter strictness c (b ∷ rest) found other ≡ found rest
on_letter-found strictness c b rest found other e = cond-true (eqb (fold_letter strictness b) c) (found rest) other (eq-eqb (fold_letter strictness b) c e)

-- words are encoded letter by letter
pub AreFolded : Strictness → List ℕ → List ℕ → Type 0
AreFolded strictness word letters = map (fold_letter strictness) letters ≡ word

folded-strict : (letters : List ℕ) → map (fold_letter strict) letters ≡ letters
folded-strict [] = refl
folded-strict (b ∷ letters) = ap (λ (u : List ℕ). b ∷ u) (folded-strict letters)

word_folded : (strictness : Strictness) (word letters : List ℕ) → IsWord strictness word letters → AreFolded strictness word letters
unfolding AreFolded
word_folded strict word letters is = folded-strict letters ∙ is
word_folded lenient word letters is = is

folded_word : (strictness : Strictness) (word letters : List ℕ) → AreFolded strictness word letters → IsWord strictness word letters
unfolding AreFolded
folded_word strict word letters is = sym (folded-strict letters) ∙ is
folded_word lenient word letters is = is

letters_folded : (size : ℕ) (strictness : Strictness) (word bytes rest : List ℕ) → letters_at size strictness word bytes ≡ Ok rest → (letters : List ℕ) × AreFolded strictness word letters × (bytes ≡ letters ++ rest)
unfolding AreFolded
letters_folded size strictness [] bytes rest e = ([], refl, cc)
letters_folded size strictness (c ∷ cs) bytes rest e =
    elim (on_letter_cases strictness c bytes (letters_at size strictness cs) (reject size expected_some_ident 1 bytes) (Ok rest) e) [
      | inl t ↦
          let later = letters_folded size strictness cs t.1 rest t.4 in
          (t.0 ∷ later.0, ap₂ (λ (b : ℕ) (u : List ℕ). b ∷ u) t.3 later.1, t.2 ∙ ap (λ (u : List ℕ). t.0 ∷ u) later.2)
      | inr f ↦ absurd (rejected_fails size expected_some_ident 1 bytes rest f.1)
    ]

letters_sound : (size : ℕ) (strictness : Strictness) (word bytes rest : List ℕ) → letters_at size strictness word bytes ≡ Ok rest → LettersRead strictness word bytes rest
letters_sound size strictness word bytes rest e =
    let r = letters_folded size strictness word bytes rest e in
    record { letters = r.0; is_word = folded_word strictness word r.0 r.1; whole = r.2 }

letters_read : (size : ℕ) (strictness : Strictness) (word letters rest : List ℕ) → AreFolded strictness word letters → letters_at size strictness word (letters ++ rest) ≡ Ok rest
unfolding AreFolded
letters_read size strictness [] [] rest is = refl
letters_read size strictness [] (b ∷ letters) rest is = cc
letters_read size strictness (c ∷ cs) [] rest is = cc
letters_read size strictness (c ∷ cs) (b ∷ letters) rest is =
    let here : fold_letter strictness b ≡ c = cc in
    let later : map (fold_letter strictness) letters ≡ cs = cc in
    on_letter-found strictness c b (letters ++ rest) (letters_at size strictness cs) (reject size expected_some_ident 1 (b ∷ (letters ++ rest))) here ∙ letters_read size strictness cs letters rest later

-- each word is parsed
pub word_read : (size : ℕ) (strictness : Strictness) (word letters : List ℕ) (t : Tree) (rest : List ℕ) → IsWord strictness word letters → word_at size strictness word t (letters ++ rest) ≡ Ok (t, rest)
word_read size strictness word letters t rest is = ap (λ (r : Result (List ℕ) Fault). r >>= λ (u : List ℕ). Ok (t, u)) (letters_read size strictness word letters rest (word_folded strictness word letters is))

word_sound : (size : ℕ) (mode : Mode) (word : List ℕ) (t u : Tree) (bytes rest : List ℕ) → ((letters : List ℕ) → IsWord (strictness mode) word letters → IsLiteral mode letters t) → word_at size (strictness mode) word t bytes ≡ Ok (u, rest) → Encoded (IsScalar mode) bytes u rest
word_sound size mode word t u bytes rest l e =
    let b = bind_ok (letters_at size (strictness mode) word bytes) (λ (r : List ℕ). Ok (t, r)) (u, rest) e in
    let same = same_read t u b.0 rest b.2 in
    let s = letters_sound size (strictness mode) word bytes b.0 b.1 in
    record {
      core = s.letters;
      encodes = subst (λ (v : Tree). IsScalar mode s.letters v) same.value (literal_value (l s.letters s.is_word));
      whole = s.whole ∙ ap (λ (r : List ℕ). s.letters ++ r) same.rest;
    }

-- How a word begins: with its first letter, in lower case or in upper case.
pub record StartsWord (strictness : Strictness) (c : ℕ) (bytes : List ℕ) : Type 0 where
  pub first : ℕ
  pub others : List ℕ
  pub whole : bytes ≡ first ∷ others
  pub letter : fold_letter strictness first ≡ c

folded_starts : (strictness : Strictness) (c : ℕ) (cs letters : List ℕ) → AreFolded strictness (c ∷ cs) letters → StartsWord strictness c letters
unfolding AreFolded
folded_starts strictness c cs [] h = cc
folded_starts strictness c cs (b ∷ letters) h = let here : fold_letter strictness b ≡ c = cc in record { first = b; others = letters; whole = refl; letter = here }

pub word_starts : (strictness : Strictness) (c : ℕ) (cs letters : List ℕ) → IsWord strictness (c ∷ cs) letters → StartsWord strictness c letters
word_starts strictness c cs letters is = folded_starts strictness c cs letters (word_folded strictness (c ∷ cs) letters is)

-- a letter is in lower case or in upper case
letter_is : (strictness : Strictness) (b c : ℕ) → fold_letter strictness b ≡ c → (b ≡ c) ⊎ (b + 32 ≡ c)
letter_is strict b c e = inl e
letter_is lenient b c e =
    elim (chosen (ltb b 65) b (cond (ltb b 91) (b + 32) b) c e) [
      | inl t ↦ inl t.1
      | inr f ↦ elim (chosen (ltb b 91) (b + 32) b c f.1) [ inl t ↦ inr t.1 | inr g ↦ inl g.1 ]
    ]

pub folded_low : (strictness : Strictness) (b : ℕ) → b < 65 → fold_letter strictness b ≡ b
folded_low strict b low = refl
folded_low lenient b low = cond-true (ltb b 65) b (cond (ltb b 91) (b + 32) b) (lt-ltb b 65 low)

-- what holds of a letter in both cases holds of the first letter of a word
by_letter : (P : ℕ → Type 0) (strictness : Strictness) (b c d : ℕ) → fold_letter strictness b ≡ c → d + 32 ≡ c → P c → P d → P b
by_letter P strictness b c d e is lower upper = ⊎_elim (λ (same : b ≡ c). subst P (sym same) lower) (λ (h : b + 32 ≡ c). let same : d ≡ b = omega (arith, h, is) in subst P same upper) (letter_is strictness b c e)

-- a byte that begins a word is none of those that a parser looks for first
record IsLetter (b : ℕ) : Type 0 where
  pub no_break : is_break b ≡ false
  pub no_bracket : eqb b 91 ≡ false
  pub no_brace : eqb b 123 ≡ false
  pub no_quote : eqb b 34 ≡ false
  pub no_single : eqb b 39 ≡ false

letter_n : (strictness : Strictness) (b : ℕ) → fold_letter strictness b ≡ 110 → IsLetter b
letter_n strictness b e = by_letter IsLetter strictness b 110 78 e refl (record { no_break = refl; no_bracket = refl; no_brace = refl; no_quote = refl; no_single = refl }) (record { no_break = refl; no_bracket = refl; no_brace = refl; no_quote = refl; no_single = refl })

letter_t : (strictness : Strictness) (b : ℕ) → fold_letter strictness b ≡ 116 → IsLetter b
letter_t strictness b e = by_letter IsLetter strictness b 116 84 e refl (record { no_break = refl; no_bracket = refl; no_brace = refl; no_quote = refl; no_single = refl }) (record { no_break = refl; no_bracket = refl; no_brace = refl; no_quote = refl; no_single = refl })

letter_f : (strictness : Strictness) (b : ℕ) → fold_letter strictness b ≡ 102 → IsLetter b
letter_f strictness b e = by_letter IsLetter strictness b 102 70 e refl (record { no_break = refl; no_bracket = refl; no_brace = refl; no_quote = refl; no_single = refl }) (record { no_break = refl; no_bracket = refl; no_brace = refl; no_quote = refl; no_single = refl })

begins_letter-of : (strictness : Strictness) (b c d : ℕ) (rest : List ℕ) → fold_letter strictness b ≡ d → begins_letter strictness c (b ∷ rest) ≡ cond (eqb d c) true false
begins_letter-of strictness b c d rest e = ap (λ (x : ℕ). cond (eqb x c) true false) e

-- ---- strings

single_quote : (strictness : Strictness) → strictness ≡ lenient → IsQuote strictness 39
single_quote strictness is = subst (λ (m : Strictness). IsQuote m 39) (sym is) (inr refl)

-- which quotes these are
pub quote_is : (strictness : Strictness) (quote : ℕ) → IsQuote strictness quote → (quote ≡ 34) ⊎ ((strictness ≡ lenient) × (quote ≡ 39))
quote_is strict quote is = inl is
quote_is lenient quote is = ⊎_elim (λ (e : quote ≡ 34). inl e) (λ (e : quote ≡ 39). inr (refl, e)) is

pub quote_no_backslash : (strictness : Strictness) (quote : ℕ) → IsQuote strictness quote → quote ≢ 92
quote_no_backslash strictness quote is same = ⊎_elim (λ (e : quote ≡ 34). omega (arith, e, same)) (λ (e : (strictness ≡ lenient) × (quote ≡ 39)). omega (arith, e.1, same)) (quote_is strictness quote is)

pub quoted_starts : (mode : Mode) (quote : ℕ) (bytes text : List ℕ) (mark : Mark) → Quoted mode quote bytes text mark → (inner : List ℕ) × (bytes ≡ quote ∷ inner)
quoted_starts mode quote bytes text mark q = (_, q.encoded)

-- whether the bytes begin with a single quote in lenient strictness
pub single_cases : {X : Type 0} (strictness : Strictness) (bytes : List ℕ) (found : List ℕ → X) (other z : X) → on_single_quote strictness bytes found other ≡ z
    → ((rest : List ℕ) × (strictness ≡ lenient) × (bytes ≡ 39 ∷ rest) × (found rest ≡ z)) ⊎ ((strictness ≡ lenient → begins 39 bytes ≡ false) × (other ≡ z))
single_cases strict bytes found other z e = inr (λ is. absurd (no_lenient is), e)
  where
    is_strict : Strictness → Type 0
    is_strict strict = Unit {0}
    is_strict lenient = ⊥

    no_lenient : ◌≡◌ {A = Strictness} strict lenient → ⊥
    no_lenient is = subst is_strict is tt
single_cases lenient bytes found other z e =
    elim (on_byte_cases 39 bytes found other z e) [
      | inl t ↦ inl (t.0, refl, t.1, t.2)
      | inr f ↦ inr (λ is. f.0, f.1)
    ]

on_single_quote-other : {X : Type 0} (strictness : Strictness) (b : ℕ) (rest : List ℕ) (found : List ℕ → X) (other : X) → eqb b 39 ≡ false → on_single_quote strictness (b ∷ rest) found other ≡ other
on_single_quote-other strict b rest found other e = refl
on_single_quote-other lenient b rest found other e = on_byte-other 39 b rest found other e

on_single_quote-found : {X : Type 0} (strictness : Strictness) (rest : List ℕ) (found : List ℕ → X) (other : X) → strictness ≡ lenient → on_single_quote strictness (39 ∷ rest) found other ≡ found rest
on_single_quote-found strictness rest found other is = ap (λ (m : Strictness). on_single_quote m (39 ∷ rest) found other) is ∙ on_byte-found 39 rest found other

-- what begins with a quote of the strictness
by_quote : {X : Type 0} (strictness : Strictness) (quote : ℕ) (inner : List ℕ) (read : ℕ → List ℕ → X) (other : X) → IsQuote strictness quote → on_byte 34 (quote ∷ inner) (read 34) (on_single_quote strictness (quote ∷ inner) (read 39) other) ≡ read quote inner
by_quote strictness quote inner read other is =
    elim (quote_is strictness quote is) [
      | inl e ↦ ap (λ (q : ℕ). on_byte 34 (q ∷ inner) (read 34) (on_single_quote strictness (q ∷ inner) (read 39) other)) e ∙ on_byte-found 34 inner (read 34) (on_single_quote strictness (34 ∷ inner) (read 39) other) ∙ ap (λ (q : ℕ). read q inner) (sym e)
      | inr e ↦
          ap (λ (q : ℕ). on_byte 34 (q ∷ inner) (read 34) (on_single_quote strictness (q ∷ inner) (read 39) other)) e.1 ∙ on_byte-other 34 39 inner (read 34) (on_single_quote strictness (39 ∷ inner) (read 39) other) refl
          ∙ on_single_quote-found strictness inner (read 39) other e.0 ∙ ap (λ (q : ℕ). read q inner) (sym e.1)
    ]

string_scalar_sound : (size : ℕ) (mode : Mode) (quote : ℕ) (bytes : List ℕ) (t : Tree) (rest : List ℕ) → IsQuote (strictness mode) quote → quoted_at size mode quote bytes ≡ Ok (t, rest) → Encoded (IsScalar mode) (quote ∷ bytes) t rest
string_scalar_sound size mode quote bytes t rest is e =
    let b = bind_ok (string_at size mode quote bytes) (λ (x : (Mark × List ℕ) × List ℕ). Ok (string x.0.0 x.0.1, x.1)) (t, rest) e in
    let s = string_sound size mode quote bytes b.0.0.0 b.0.0.1 b.0.1 (quote_no_backslash (strictness mode) quote is) b.1 in
    let same = same_read (string b.0.0.0 b.0.0.1) t b.0.1 rest b.2 in
    record {
      core = quote ∷ s.inner;
      encodes = subst (λ (v : Tree). IsScalar mode (quote ∷ s.inner) v) same.value (string_value is s.quoted);
      whole = ap (λ (u : List ℕ). quote ∷ u) (s.whole ∙ ap (λ (u : List ℕ). s.inner ++ u) same.rest);
    }

-- a string, whose first byte is opened
string_reads : (size : ℕ) (mode : Mode) (quote : ℕ) (core text : List ℕ) (mark : Mark) (rest : List ℕ) → IsQuote (strictness mode) quote → Quoted mode quote core text mark → (inner : List ℕ) × (core ≡ quote ∷ inner) × (string_at size mode quote (inner ++ rest) ≡ Ok ((mark, text), rest))
string_reads size mode quote core text mark rest is q =
    let o = quoted_starts mode quote core text mark q in
    (o.0, o.1, string_complete size mode quote core mark text o.0 rest (quote_no_backslash (strictness mode) quote is) q o.1)

-- ---- numbers

-- a byte that begins a number is none of those that a parser looks for first
pub record IsApart (b : ℕ) : Type 0 where
  pub no_break : is_break b ≡ false
  pub no_bracket : eqb b 91 ≡ false
  pub no_brace : eqb b 123 ≡ false
  pub no_quote : eqb b 34 ≡ false
  pub no_single : eqb b 39 ≡ false
  pub no_letter : (strictness : Strictness) (c : ℕ) → 97 ≤ c → eqb (fold_letter strictness b) c ≡ false

differs : (b c : ℕ) → b ≢ c → eqb b c ≡ false
differs b c h = ne_eqb b c h

apart_from : (b : ℕ) → (b ≡ 45) ⊎ ((48 ≤ b) × (b ≤ 57)) → IsApart b
apart_from b h =
    let in_range : (45 ≤ b) × (b ≤ 57) = ⊎_elim (λ (m : b ≡ 45). (omega (arith, m), omega (arith, m))) (λ (d : (48 ≤ b) × (b ≤ 57)). (omega (arith, d.0), d.1)) h in
    let no_slash : b ≢ 47 = λ e. ⊎_elim (λ (m : b ≡ 45). omega (arith, m, e)) (λ (d : (48 ≤ b) × (b ≤ 57)). omega (arith, d.0, e)) h in
    record {
      no_break =
          or_from (is_whitespace_start b || eqb b 44 || eqb b 58 || eqb b 93) (eqb b 125)
          (or_from (is_whitespace_start b || eqb b 44 || eqb b 58) (eqb b 93)
          (or_from (is_whitespace_start b || eqb b 44) (eqb b 58)
          (or_from (is_whitespace_start b) (eqb b 44)
          (or_from (eqb b 32 || eqb b 9 || eqb b 10 || eqb b 12 || eqb b 13 || eqb b 92) (eqb b 47)
          (or_from (eqb b 32 || eqb b 9 || eqb b 10 || eqb b 12 || eqb b 13) (eqb b 92)
          (or_from (eqb b 32 || eqb b 9 || eqb b 10 || eqb b 12) (eqb b 13)
          (or_from (eqb b 32 || eqb b 9 || eqb b 10) (eqb b 12) (or_from (eqb b 32 || eqb b 9) (eqb b 10) (or_from (eqb b 32) (eqb b 9) (differs b 32 (omega (arith, in_range.0))) (differs b 9 (omega (arith, in_range.0)))) (differs b 10 (omega (arith, in_range.0)))) (differs b 12 (omega (arith, in_range.0))))
          (differs b 13 (omega (arith, in_range.0))))
          (differs b 92 (omega (arith, in_range.1))))
          (differs b 47 no_slash))
          (differs b 44 (omega (arith, in_range.0))))
          (differs b 58 (omega (arith, in_range.1))))
          (differs b 93 (omega (arith, in_range.1))))
          (differs b 125 (omega (arith, in_range.1)));
      no_bracket = differs b 91 (omega (arith, in_range.1));
      no_brace = differs b 123 (omega (arith, in_range.1));
      no_quote = differs b 34 (omega (arith, in_range.0));
      no_single = differs b 39 (omega (arith, in_range.0));
      no_letter = λ s c low. ap (λ (x : ℕ). eqb x c) (folded_low s b (omega (arith, in_range.1))) ∙ differs b c (λ e. omega (arith, in_range.1, low, e));
    }

sign_or_point_apart : (b : ℕ) → is_break b ≡ false → eqb b 91 ≡ false → eqb b 123 ≡ false → eqb b 34 ≡ false → eqb b 39 ≡ false → b < 65 → IsApart b
sign_or_point_apart b no_break no_bracket no_brace no_quote no_single low =
    record {
      no_break = no_break;
      no_bracket = no_bracket;
      no_brace = no_brace;
      no_quote = no_quote;
      no_single = no_single;
      no_letter = λ s c high. ap (λ (x : ℕ). eqb x c) (folded_low s b low) ∙ differs b c (λ e. omega (arith, low, high, e));
    }

-- a byte that begins a number
opens_apart : (b : ℕ) → OpensNumber b → IsApart b
opens_apart b (inl plus) = subst IsApart (sym plus) (sign_or_point_apart 43 refl refl refl refl refl (omega arith))
opens_apart b (inr (inl minus)) = apart_from b (inl minus)
opens_apart b (inr (inr (inl point))) = subst IsApart (sym point) (sign_or_point_apart 46 refl refl refl refl refl (omega arith))
opens_apart b (inr (inr (inr digit))) = apart_from b (inr digit)

pub number_start_apart : (b : ℕ) → is_number_start b ≡ true → IsApart b
number_start_apart b e =
    apart_from b (⊎_elim (λ (d : is_ascii_digit b ≡ true). inr (ascii_digit b d)) (λ (m : eqb b 45 ≡ true). inl (eqb-true b 45 m)) (or_cases (is_ascii_digit b) (eqb b 45) e))
  where
    ascii_digit : (c : ℕ) → is_ascii_digit c ≡ true → (48 ≤ c) × (c ≤ 57)
    ascii_digit c d = grind (arith, nat_tests)

-- no byte that may follow a value goes on with a number
pub break_ends : (b : ℕ) → is_break b ≡ true → ¬ (ContinuesNumber b)
break_ends b e g = true≢false (sym e ∙ ⊎_elim (λ d. (apart_from b (inr d)).no_break) (λ (h : (b ≡ 46) ⊎ IsExponentMark b). ⊎_elim (λ p. ap is_break p) (λ (m : IsExponentMark b). ⊎_elim (λ p. ap is_break p) (λ p. ap is_break p) m) h) g)

follows_number : (rest : List ℕ) → Follows rest → IsNumberBoundary rest
follows_number rest no_more = tt
follows_number rest (before h) = subst IsNumberBoundary (sym h.whole) (break_ends h.first h.is_end)

no_more_digits : (b : ℕ) → 16 ≤ digit_value b → b ≢ 46 → to_ascii_lowercase b ≢ 120 → ¬ (ContinuesNumberExtended b)
no_more_digits b digit point mark = ⊎_elim (λ d. omega (arith, d, digit)) (⊎_elim point mark)

-- no byte that may follow a value goes on with an extended number
pub break_ends_extended : (b : ℕ) → is_break b ≡ true → ¬ (ContinuesNumberExtended b)
break_ends_extended b e =
    break_is b e (λ c. ¬ (ContinuesNumberExtended c))
    (no_more_digits 32 (omega arith) (omega arith) (omega arith))
    (no_more_digits 9 (omega arith) (omega arith) (omega arith))
    (no_more_digits 10 (omega arith) (omega arith) (omega arith))
    (no_more_digits 12 (omega arith) (omega arith) (omega arith))
    (no_more_digits 13 (omega arith) (omega arith) (omega arith))
    (no_more_digits 92 (omega arith) (omega arith) (omega arith))
    (no_more_digits 47 (omega arith) (omega arith) (omega arith))
    (no_more_digits 44 (omega arith) (omega arith) (omega arith))
    (no_more_digits 58 (omega arith) (omega arith) (omega arith))
    (no_more_digits 93 (omega arith) (omega arith) (omega arith))
    (no_more_digits 125 (omega arith) (omega arith) (omega arith))

follows_extended : (rest : List ℕ) → Follows rest → EndsExtended rest
follows_extended rest no_more = tt
follows_extended rest (before h) = subst EndsExtended (sym h.whole) (break_ends_extended h.first h.is_end)

-- nor with a number of either strictness
follows : (strictness : Strictness) (rest : List ℕ) → Follows rest → EndsNumber strictness rest
follows strict rest f = follows_number rest f
follows lenient rest f = follows_extended rest f

number_value_sound : (size : ℕ) (mode : Mode) (bytes : List ℕ) (t : Tree) (rest : List ℕ) → number_value_at size mode bytes ≡ Ok (t, rest) → Encoded (IsScalar mode) bytes t rest
number_value_sound size mode bytes t rest e =
    let b = bind_ok (number_at size mode bytes) (λ (x : Num × List ℕ). Ok (number x.0, x.1)) (t, rest) e in
    let same = same_read (number b.0.0) t b.0.1 rest b.2 in
    let s = number_sound_of size mode bytes b.0.0 b.0.1 b.1 in
    record {
      core = s.core;
      encodes = subst (λ (u : Tree). IsScalar mode s.core u) same.value (number_value s.number);
      whole = s.joined ∙ ap (λ (r : List ℕ). s.core ++ r) same.rest;
    }

number_scalar_sound : (size : ℕ) (mode : Mode) (bytes : List ℕ) (t : Tree) (rest : List ℕ) → number_or_fault size mode bytes ≡ Ok (t, rest) → Encoded (IsScalar mode) bytes t rest
number_scalar_sound size mode bytes t rest e =
    elim (chosen (begins_number (strictness mode) bytes) (number_value_at size mode bytes) (reject size expected_some_value 1 bytes) (Ok (t, rest)) e) [
      | inl h ↦ number_value_sound size mode bytes t rest h.1
      | inr h ↦ absurd (rejected_fails size expected_some_value 1 bytes (t, rest) h.1)
    ]

or_else_ok : {A : Type 0} (r other : Result A Fault) (x : A) → or_else r other ≡ Ok x → (r ≡ Ok x) ⊎ (other ≡ Ok x)
or_else_ok (Ok y) other x e = inl e
or_else_ok (Err f) other x e = inr e

-- `null`, or where that fails a number's word
null_or_cases : (size : ℕ) (strictness : Strictness) (other : List ℕ → Parse Tree) (bytes : List ℕ) (x : Tree × List ℕ) → null_or size strictness other bytes ≡ Ok x → (word_at size strictness (codes "null") null bytes ≡ Ok x) ⊎ (other bytes ≡ Ok x)
null_or_cases size strict other bytes x e = inl e
null_or_cases size lenient other bytes x e = or_else_ok (word_at size lenient (codes "null") null bytes) (other bytes) x e

null_sound : (size : ℕ) (mode : Mode) (bytes : List ℕ) (t : Tree) (rest : List ℕ) → null_at size mode bytes ≡ Ok (t, rest) → Encoded (IsScalar mode) bytes t rest
null_sound size mode bytes t rest e =
    elim (null_or_cases size (strictness mode) (number_value_at size mode) bytes (t, rest) e) [
      | inl w ↦ word_sound size mode (codes "null") null t bytes rest (λ letters is. null_word is) w
      | inr n ↦ number_value_sound size mode bytes t rest n
    ]

pub scalar_sound : (size : ℕ) (mode : Mode) → IsSound (IsScalar mode) (scalar_at size mode)
unfolding scalar_at
scalar_sound size mode bytes t rest e =
    elim (on_byte_cases 34 bytes (quoted_at size mode 34) (on_single_quote (strictness mode) bytes (quoted_at size mode 39) (words_at size mode bytes)) (Ok (t, rest)) e) [
      | inl q ↦ subst (λ (b : List ℕ). Encoded (IsScalar mode) b t rest) (sym q.1) (string_scalar_sound size mode 34 q.0 t rest (double_quote (strictness mode)) q.2)
      | inr d ↦ elim (single_cases (strictness mode) bytes (quoted_at size mode 39) (words_at size mode bytes) (Ok (t, rest)) d.1) [
        | inl q ↦ subst (λ (b : List ℕ). Encoded (IsScalar mode) b t rest) (sym q.2) (string_scalar_sound size mode 39 q.0 t rest (single_quote (strictness mode) q.1) q.3)
        | inr f ↦ elim (chosen (begins_letter (strictness mode) 110 bytes) (null_at size mode bytes) (true_or_false_at size mode bytes) (Ok (t, rest)) f.1) [
          | inl w ↦ null_sound size mode bytes t rest w.1
          | inr g ↦ elim (chosen (begins_letter (strictness mode) 116 bytes) (word_at size (strictness mode) (codes "true") (boolean true) bytes) (false_at size mode bytes) (Ok (t, rest)) g.1) [
            | inl w ↦ word_sound size mode (codes "true") (boolean true) t bytes rest (λ letters is. true_word is) w.1
            | inr h ↦ elim (chosen (begins_letter (strictness mode) 102 bytes) (word_at size (strictness mode) (codes "false") (boolean false) bytes) (number_or_fault size mode bytes) (Ok (t, rest)) h.1) [
              | inl w ↦ word_sound size mode (codes "false") (boolean false) t bytes rest (λ letters is. false_word is) w.1
              | inr k ↦ number_scalar_sound size mode bytes t rest k.1
            ]
          ]
        ]
      ]
    ]

-- ---- how scalars begin, and that each is parsed

-- A number begins with a byte that no other scalar begins with.
pub record StartsNumber (mode : Mode) (bytes : List ℕ) : Type 0 where
  pub first : ℕ
  pub others : List ℕ
  pub whole : bytes ≡ first ∷ others
  pub begun : (rest : List ℕ) → begins_number (strictness mode) (first ∷ rest) ≡ true
  pub apart : IsApart first

pub number_opens : (mode : Mode) (core : List ℕ) (n : Num) → IsNumber mode core n → StartsNumber mode core
number_opens mode core n is = let s = number_starts_of mode core n is in record { first = s.first; others = s.others; whole = s.whole; begun = s.begun; apart = opens_apart s.first s.opens }

word_begins : (strictness : Strictness) (c : ℕ) (bytes : List ℕ) → StartsWord strictness c bytes → ((b : ℕ) → fold_letter strictness b ≡ c → IsLetter b) → StartsScalar bytes
word_begins strictness c bytes s letter =
    let l = letter s.first s.letter in
    record { first = s.first; others = s.others; whole = s.whole; is_start = l.no_break; bracket = l.no_bracket; brace = l.no_brace }

quote_begins : (strictness : Strictness) (quote : ℕ) (bytes inner : List ℕ) → IsQuote strictness quote → bytes ≡ quote ∷ inner → StartsScalar bytes
quote_begins strictness quote bytes inner is e =
    elim (quote_is strictness quote is) [
      | inl q ↦ record { first = 34; others = inner; whole = e ∙ ap (λ (c : ℕ). c ∷ inner) q; is_start = refl; bracket = refl; brace = refl }
      | inr q ↦ record { first = 39; others = inner; whole = e ∙ ap (λ (c : ℕ). c ∷ inner) q.1; is_start = refl; bracket = refl; brace = refl }
    ]

pub scalar_starts : (mode : Mode) (bytes : List ℕ) (t : Tree) → IsScalar mode bytes t → StartsScalar bytes
scalar_starts mode bytes t (literal_value (null_word is)) = word_begins (strictness mode) 110 bytes (word_starts (strictness mode) 110 (codes "ull") bytes is) (letter_n (strictness mode))
scalar_starts mode bytes t (literal_value (true_word is)) = word_begins (strictness mode) 116 bytes (word_starts (strictness mode) 116 (codes "rue") bytes is) (letter_t (strictness mode))
scalar_starts mode bytes t (literal_value (false_word is)) = word_begins (strictness mode) 102 bytes (word_starts (strictness mode) 102 (codes "alse") bytes is) (letter_f (strictness mode))
scalar_starts mode bytes t (string_value {quote = quote} {text = text} {mark = mark} is q) = let o = quoted_starts mode quote bytes text mark q in quote_begins (strictness mode) quote bytes o.0 is o.1
scalar_starts mode bytes t (number_value {n = n} is) =
    let s = number_opens mode bytes n is in
    record { first = s.first; others = s.others; whole = s.whole; is_start = s.apart.no_break; bracket = s.apart.no_bracket; brace = s.apart.no_brace }

-- what begins with no quote is a word or a number
no_quotes : (size : ℕ) (mode : Mode) (b : ℕ) (bytes : List ℕ) → eqb b 34 ≡ false → eqb b 39 ≡ false → scalar_at size mode (b ∷ bytes) ≡ words_at size mode (b ∷ bytes)
unfolding scalar_at
no_quotes size mode b bytes double single =
    on_byte-other 34 b bytes (quoted_at size mode 34) (on_single_quote (strictness mode) (b ∷ bytes) (quoted_at size mode 39) (words_at size mode (b ∷ bytes))) double
    ∙ on_single_quote-other (strictness mode) b bytes (quoted_at size mode 39) (words_at size mode (b ∷ bytes)) single

-- a number is what is looked for where no other scalar begins
number_first : (size : ℕ) (mode : Mode) (b : ℕ) (bytes : List ℕ) → IsApart b → scalar_at size mode (b ∷ bytes) ≡ number_or_fault size mode (b ∷ bytes)
number_first size mode b bytes a =
    no_quotes size mode b bytes a.no_quote a.no_single
    ∙ cond-false (begins_letter (strictness mode) 110 (b ∷ bytes)) (null_at size mode (b ∷ bytes)) (true_or_false_at size mode (b ∷ bytes)) (other_letter 110 (omega arith))
    ∙ cond-false (begins_letter (strictness mode) 116 (b ∷ bytes)) (word_at size (strictness mode) (codes "true") (boolean true) (b ∷ bytes)) (false_at size mode (b ∷ bytes)) (other_letter 116 (omega arith))
    ∙ cond-false (begins_letter (strictness mode) 102 (b ∷ bytes)) (word_at size (strictness mode) (codes "false") (boolean false) (b ∷ bytes)) (number_or_fault size mode (b ∷ bytes)) (other_letter 102 (omega arith))
  where
    other_letter : (c : ℕ) → 97 ≤ c → begins_letter (strictness mode) c (b ∷ bytes) ≡ false
    other_letter c low = cond-false (eqb (fold_letter (strictness mode) b) c) true false (a.no_letter (strictness mode) c low)

number_reads : (size : ℕ) (mode : Mode) (core : List ℕ) (n : Num) (rest : List ℕ) → IsNumber mode core n → Follows rest → scalar_at size mode (core ++ rest) ≡ Ok (number n, rest)
number_reads size mode core n rest is f =
    let s = number_opens mode core n is in
    let opened : core ++ rest ≡ s.first ∷ (s.others ++ rest) = ap (λ (u : List ℕ). u ++ rest) s.whole in
    ap (λ (u : List ℕ). scalar_at size mode u) opened ∙ number_first size mode s.first (s.others ++ rest) s.apart
    ∙ cond-true (begins_number (strictness mode) (s.first ∷ (s.others ++ rest))) (number_value_at size mode (s.first ∷ (s.others ++ rest))) (reject size expected_some_value 1 (s.first ∷ (s.others ++ rest))) (s.begun (s.others ++ rest))
    ∙ ap (λ (u : List ℕ). number_value_at size mode u) (sym opened)
    ∙ ap (λ (r : Parse Num). r >>= λ (x : Num × List ℕ). Ok (number x.0, x.1)) (number_complete_of size mode core rest n is (follows (strictness mode) rest f))

quoted_reads : (size : ℕ) (mode : Mode) (quote : ℕ) (core text : List ℕ) (mark : Mark) (rest : List ℕ) → IsQuote (strictness mode) quote → Quoted mode quote core text mark → scalar_at size mode (core ++ rest) ≡ Ok (string mark text, rest)
unfolding scalar_at
quoted_reads size mode quote core text mark rest is q =
    let r = string_reads size mode quote core text mark rest is q in
    let opened : core ++ rest ≡ quote ∷ (r.0 ++ rest) = ap (λ (u : List ℕ). u ++ rest) r.1 in
    ap (λ (u : List ℕ). on_byte 34 u (quoted_at size mode 34) (on_single_quote (strictness mode) u (quoted_at size mode 39) (words_at size mode u))) opened
    ∙ by_quote (strictness mode) quote (r.0 ++ rest) (quoted_at size mode) (words_at size mode (quote ∷ (r.0 ++ rest))) is
    ∙ ap (λ (s : Parse (Mark × List ℕ)). s >>= λ (x : (Mark × List ℕ) × List ℕ). Ok (string x.0.0 x.0.1, x.1)) r.2

-- a word is what is looked for where no quote begins
word_first : (size : ℕ) (mode : Mode) (c : ℕ) (letters rest : List ℕ) → StartsWord (strictness mode) c letters → ((b : ℕ) → fold_letter (strictness mode) b ≡ c → IsLetter b) → scalar_at size mode (letters ++ rest) ≡ words_at size mode (letters ++ rest)
word_first size mode c letters rest s letter =
    let l = letter s.first s.letter in
    let opened : letters ++ rest ≡ s.first ∷ (s.others ++ rest) = ap (λ (u : List ℕ). u ++ rest) s.whole in
    ap (scalar_at size mode) opened ∙ no_quotes size mode s.first (s.others ++ rest) l.no_quote l.no_single ∙ ap (words_at size mode) (sym opened)

begins_word : (strictness : Strictness) (c d : ℕ) (letters rest : List ℕ) → StartsWord strictness d letters → begins_letter strictness c (letters ++ rest) ≡ cond (eqb d c) true false
begins_word strictness c d letters rest s = ap (λ (u : List ℕ). begins_letter strictness c (u ++ rest)) s.whole ∙ begins_letter-of strictness s.first c d (s.others ++ rest) s.letter

-- where the word is parsed, nothing else is tried
pub null_or_word : (size : ℕ) (strictness : Strictness) (other : List ℕ → Parse Tree) (bytes : List ℕ) (x : Tree × List ℕ) → word_at size strictness (codes "null") null bytes ≡ Ok x → null_or size strictness other bytes ≡ Ok x
null_or_word size strict other bytes x e = e
null_or_word size lenient other bytes x e = ap (λ (r : Parse Tree). or_else r (other bytes)) e

null_read : (size : ℕ) (mode : Mode) (letters rest : List ℕ) → IsWord (strictness mode) (codes "null") letters → null_at size mode (letters ++ rest) ≡ Ok (null, rest)
null_read size mode letters rest is = null_or_word size (strictness mode) (number_value_at size mode) (letters ++ rest) (null, rest) (word_read size (strictness mode) (codes "null") letters null rest is)

pub scalar_complete : (size : ℕ) (mode : Mode) (bytes : List ℕ) (t : Tree) (rest : List ℕ) → IsScalar mode bytes t → (IsNumberTree t → Follows rest) → scalar_at size mode (bytes ++ rest) ≡ Ok (t, rest)
scalar_complete size mode bytes t rest (literal_value (null_word is)) f =
    let s = word_starts (strictness mode) 110 (codes "ull") bytes is in
    word_first size mode 110 bytes rest s (letter_n (strictness mode))
    ∙ cond-true (begins_letter (strictness mode) 110 (bytes ++ rest)) (null_at size mode (bytes ++ rest)) (true_or_false_at size mode (bytes ++ rest)) (begins_word (strictness mode) 110 110 bytes rest s)
    ∙ null_read size mode bytes rest is
scalar_complete size mode bytes t rest (literal_value (true_word is)) f =
    let s = word_starts (strictness mode) 116 (codes "rue") bytes is in
    word_first size mode 116 bytes rest s (letter_t (strictness mode))
    ∙ cond-false (begins_letter (strictness mode) 110 (bytes ++ rest)) (null_at size mode (bytes ++ rest)) (true_or_false_at size mode (bytes ++ rest)) (begins_word (strictness mode) 110 116 bytes rest s)
    ∙ cond-true (begins_letter (strictness mode) 116 (bytes ++ rest)) (word_at size (strictness mode) (codes "true") (boolean true) (bytes ++ rest)) (false_at size mode (bytes ++ rest)) (begins_word (strictness mode) 116 116 bytes rest s)
    ∙ word_read size (strictness mode) (codes "true") bytes (boolean true) rest is
scalar_complete size mode bytes t rest (literal_value (false_word is)) f =
    let s = word_starts (strictness mode) 102 (codes "alse") bytes is in
    word_first size mode 102 bytes rest s (letter_f (strictness mode))
    ∙ cond-false (begins_letter (strictness mode) 110 (bytes ++ rest)) (null_at size mode (bytes ++ rest)) (true_or_false_at size mode (bytes ++ rest)) (begins_word (strictness mode) 110 102 bytes rest s)
    ∙ cond-false (begins_letter (strictness mode) 116 (bytes ++ rest)) (word_at size (strictness mode) (codes "true") (boolean true) (bytes ++ rest)) (false_at size mode (bytes ++ rest)) (begins_word (strictness mode) 116 102 bytes rest s)
    ∙ cond-true (begins_letter (strictness mode) 102 (bytes ++ rest)) (word_at size (strictness mode) (codes "false") (boolean false) (bytes ++ rest)) (number_or_fault size mode (bytes ++ rest)) (begins_word (strictness mode) 102 102 bytes rest s)
    ∙ word_read size (strictness mode) (codes "false") bytes (boolean false) rest is
scalar_complete size mode bytes t rest (string_value {quote = quote} {text = text} {mark = mark} is q) f = quoted_reads size mode quote bytes text mark rest is q
scalar_complete size mode bytes t rest (number_value {n = n} is) f = number_reads size mode bytes n rest is (f tt)

-- ---- keys

quoted_key_sound : (size : ℕ) (mode : Mode) (quote : ℕ) (bytes : List ℕ) (k : Mark × List ℕ) (rest : List ℕ) → IsQuote (strictness mode) quote → string_at size mode quote bytes ≡ Ok (k, rest) → Encoded (IsKey mode) (quote ∷ bytes) k rest
quoted_key_sound size mode quote bytes k rest is e =
    let s = string_sound size mode quote bytes k.0 k.1 rest (quote_no_backslash (strictness mode) quote is) e in
    record { core = quote ∷ s.inner; encodes = quoted_key is s.quoted; whole = ap (λ (u : List ℕ). quote ∷ u) s.whole }

-- a key without quotes is one of a lenient mode
unquoted_is : (size : ℕ) (strictness : Strictness) (bytes : List ℕ) (x : (Mark × List ℕ) × List ℕ) → unquoted_at size strictness bytes ≡ Ok x → (strictness ≡ lenient) × (bare_key_at size bytes ≡ Ok x)
unquoted_is size strict bytes x e = absurd (rejected_fails size expected_some_ident 1 bytes x e)
unquoted_is size lenient bytes x e = (refl, e)

unquoted_sound : (size : ℕ) (mode : Mode) (bytes : List ℕ) (k : Mark × List ℕ) (rest : List ℕ) → unquoted_at size (strictness mode) bytes ≡ Ok (k, rest) → Encoded (IsKey mode) bytes k rest
unquoted_sound size mode bytes k rest e =
    let is = unquoted_is size (strictness mode) bytes (k, rest) e in
    let s = bare_sound size bytes k rest is.1 in
    record { core = s.core; encodes = subst (λ (x : Mark × List ℕ). IsKey mode s.core x) s.meant (bare_key is.0 s.is_key); whole = s.whole }

pub key_sound : (size : ℕ) (mode : Mode) → IsSound (IsKey mode) (key_at size mode)
unfolding key_at
key_sound size mode bytes k rest e =
    elim (on_byte_cases 34 bytes (string_at size mode 34) (on_single_quote (strictness mode) bytes (string_at size mode 39) (unquoted_at size (strictness mode) bytes)) (Ok (k, rest)) e) [
      | inl q ↦ subst (λ (b : List ℕ). Encoded (IsKey mode) b k rest) (sym q.1) (quoted_key_sound size mode 34 q.0 k rest (double_quote (strictness mode)) q.2)
      | inr d ↦ elim (single_cases (strictness mode) bytes (string_at size mode 39) (unquoted_at size (strictness mode) bytes) (Ok (k, rest)) d.1) [
        | inl q ↦ subst (λ (b : List ℕ). Encoded (IsKey mode) b k rest) (sym q.2) (quoted_key_sound size mode 39 q.0 k rest (single_quote (strictness mode) q.1) q.3)
        | inr f ↦ unquoted_sound size mode bytes k rest f.1
      ]
    ]

-- a byte that begins a key ends none
no_break : (b : ℕ) → key_step b ≢ 0 → is_break b ≡ false
no_break b steps = ⊎_elim (λ t. absurd (steps (break_stops b t))) (λ f. f) (cases_Bool (is_break b))

pub key_starts : (mode : Mode) (core : List ℕ) (k : Mark × List ℕ) → IsKey mode core k → Starts core
key_starts mode core k (quoted_key {quote = quote} {text = text} {mark = mark} is q) =
    let o = quoted_starts mode quote core text mark q in
    let s = quote_begins (strictness mode) quote core o.0 is o.1 in
    record { first = s.first; others = s.others; whole = s.whole; is_start = s.is_start }
key_starts mode core k (bare_key is b) = let s = bare_starts core b in record { first = s.first; others = s.others; whole = s.whole; is_start = no_break s.first s.steps }

bare_reads : (size : ℕ) (mode : Mode) (core rest : List ℕ) → IsLenient mode → IsBareKey core → Ends rest → key_at size mode (core ++ rest) ≡ Ok ((plain, core), rest)
unfolding key_at
bare_reads size mode core rest is b ends =
    let s = bare_starts core b in
    let opened : core ++ rest ≡ s.first ∷ (s.others ++ rest) = ap (λ (u : List ℕ). u ++ rest) s.whole in
    let double : eqb s.first 34 ≡ false = ne_eqb s.first 34 (λ e. s.steps (ap key_step e)) in
    let single : eqb s.first 39 ≡ false = ne_eqb s.first 39 (λ e. s.steps (ap key_step e)) in
    ap (λ (u : List ℕ). on_byte 34 u (string_at size mode 34) (on_single_quote (strictness mode) u (string_at size mode 39) (unquoted_at size (strictness mode) u))) opened
    ∙ on_byte-other 34 s.first (s.others ++ rest) (string_at size mode 34) (on_single_quote (strictness mode) (s.first ∷ (s.others ++ rest)) (string_at size mode 39) (unquoted_at size (strictness mode) (s.first ∷ (s.others ++ rest)))) double
    ∙ on_single_quote-other (strictness mode) s.first (s.others ++ rest) (string_at size mode 39) (unquoted_at size (strictness mode) (s.first ∷ (s.others ++ rest))) single
    ∙ ap (λ (u : List ℕ). unquoted_at size (strictness mode) u) (sym opened) ∙ ap (λ (s : Strictness). unquoted_at size s (core ++ rest)) is
    ∙ ap (λ (u : List ℕ). bare_key_at size (core ++ u)) ends.whole ∙ bare_complete size core ends.others ends.first b ends.is_end ∙ ap (λ (u : List ℕ). Ok ((plain, core), u)) (sym ends.whole)

key_reads : (size : ℕ) (mode : Mode) (core : List ℕ) (k : Mark × List ℕ) (rest : List ℕ) → IsKey mode core k → Ends rest → key_at size mode (core ++ rest) ≡ Ok (k, rest)
unfolding key_at
key_reads size mode core k rest (quoted_key {quote = quote} {text = text} {mark = mark} is q) ends =
    let r = string_reads size mode quote core text mark rest is q in
    let opened : core ++ rest ≡ quote ∷ (r.0 ++ rest) = ap (λ (u : List ℕ). u ++ rest) r.1 in
    ap (λ (u : List ℕ). on_byte 34 u (string_at size mode 34) (on_single_quote (strictness mode) u (string_at size mode 39) (unquoted_at size (strictness mode) u))) opened
    ∙ by_quote (strictness mode) quote (r.0 ++ rest) (string_at size mode) (unquoted_at size (strictness mode) (quote ∷ (r.0 ++ rest))) is
    ∙ r.2
key_reads size mode core k rest (bare_key is b) ends = bare_reads size mode core rest is b ends

pub key_complete : (size : ℕ) (mode : Mode) → IsComplete (IsKey mode) (key_at size mode)
key_complete size mode = record { starts = key_starts mode; parses = key_reads size mode }

-- a number is parsed by the parser of numbers
pub scalar-number : (size : ℕ) (mode : Mode) (core : List ℕ) (n : Num) (rest : List ℕ) → IsNumber mode core n → scalar_at size mode (core ++ rest) ≡ number_or_fault size mode (core ++ rest)
scalar-number size mode core n rest is =
    let s = number_opens mode core n is in
    let opened : core ++ rest ≡ s.first ∷ (s.others ++ rest) = ap (λ (u : List ℕ). u ++ rest) s.whole in
    ap (λ (u : List ℕ). scalar_at size mode u) opened ∙ number_first size mode s.first (s.others ++ rest) s.apart ∙ ap (λ (u : List ℕ). number_or_fault size mode u) (sym opened)

-- Where the text of a value is a proper prefix of that of another, both are numbers.
use Rattle.std.proofs.Common.{◌≡◌, ◌≢◌, ℕ, zero, suc, ◌≤◌, true≢false, List, [], ◌∷◌, ◌++◌, codes, None, ⊎_elim, refl, sym, ap, subst, ◌∙◌, eq-eqb, arith}
use Rattle.jsonb_spec.specs.Grammar.{Derives, IsValue}
use Rattle.jsonb_spec.specs.Grammar.IsValue.{empty_array, empty_object, full_array, full_object, scalar}
use Rattle.jsonb_spec.specs.Mode.{Mode, strictness, IsLenient}
use Rattle.jsonb_spec.specs.Accessors.{as_number}
use Rattle.jsonb_spec.specs.Grammar.Scalar.{IsQuote, IsScalar}
use Rattle.jsonb_spec.specs.Grammar.Scalar.IsLiteral.{false_word, null_word, true_word}
use Rattle.jsonb_spec.specs.Grammar.Scalar.IsScalar.{literal_value, number_value, string_value}
use Rattle.jsonb_spec.specs.Tree.{Tree}
use Rattle.jsonb_spec.specs.Tree.Tree.{number}
use Rattle.jsonb_spec.specs.Parsing.Scalar.{fold_letter}
use Rattle.jsonb.proofs.Documents.Encodings.{whole_if_no_number}
use Rattle.text_parse.proofs.Scalars.Encodings.{IsApart, IsNumberTree, StartsNumber, StartsWord, number_opens, quote_is, quoted_starts, word_starts}

no_number : (t : Tree) → IsNumberTree t → as_number t ≡ None → ⊥
no_number (number n) k e = cc
no_number other k e = k

a_number : (t : Tree) → as_number t ≢ None → IsNumberTree t
a_number (number n) h = tt
a_number other h = absurd (h refl)

-- ---- how numbers begin, and how other values do

scalar_begins : (mode : Mode) (bytes : List ℕ) (t : Tree) → IsScalar mode bytes t → IsNumberTree t → StartsNumber mode bytes
scalar_begins mode bytes t (literal_value (null_word is)) k = absurd k
scalar_begins mode bytes t (literal_value (true_word is)) k = absurd k
scalar_begins mode bytes t (literal_value (false_word is)) k = absurd k
scalar_begins mode bytes t (string_value is q) k = absurd k
scalar_begins mode bytes t (number_value {n = n} is) k = number_opens mode bytes n is

value_begins : (mode : Mode) (Value : List ℕ → Tree → Type 0) (bytes : List ℕ) (t : Tree) → IsValue mode Value bytes t → IsNumberTree t → StartsNumber mode bytes
value_begins mode Value bytes t (scalar s) k = scalar_begins mode bytes t s k
value_begins mode Value bytes t (empty_array b) k = absurd k
value_begins mode Value bytes t (full_array j n) k = absurd k
value_begins mode Value bytes t (empty_object b) k = absurd k
value_begins mode Value bytes t (full_object j d) k = absurd k

derived_begins : (mode : Mode) (depth : ℕ) (bytes : List ℕ) (t : Tree) → Derives mode depth bytes t → IsNumberTree t → StartsNumber mode bytes
derived_begins mode zero bytes t d k = scalar_begins mode bytes t d k
derived_begins mode (suc depth) bytes t d k = value_begins mode (Derives mode depth) bytes t d k

-- the first byte of these bytes begins no number
BeginsOther : Mode → List ℕ → Type 0
BeginsOther mode bytes = StartsNumber mode bytes → ⊥

other_first : (mode : Mode) (b : ℕ) (rest : List ℕ) → (IsApart b → ⊥) → BeginsOther mode (b ∷ rest)
unfolding BeginsOther
other_first mode b rest none s = none (subst IsApart (let both : b ∷ rest ≡ s.first ∷ s.others = s.whole in let same : s.first ≡ b = cc in same) s.apart)

word_other : (mode : Mode) (c : ℕ) (bytes : List ℕ) → 97 ≤ c → StartsWord (strictness mode) c bytes → BeginsOther mode bytes
unfolding BeginsOther
word_other mode c bytes low s =
    subst (BeginsOther mode) (sym s.whole) (other_first mode s.first s.others (λ a. true≢false (sym (eq-eqb (fold_letter (strictness mode) s.first) c s.letter) ∙ a.no_letter (strictness mode) c low)))

quote_other : (mode : Mode) (quote : ℕ) (bytes inner : List ℕ) → IsQuote (strictness mode) quote → bytes ≡ quote ∷ inner → BeginsOther mode bytes
quote_other mode quote bytes inner is e =
    ⊎_elim (λ (q : quote ≡ 34). subst (BeginsOther mode) (sym (e ∙ ap (λ (c : ℕ). c ∷ inner) q)) (other_first mode 34 inner (λ a. true≢false a.no_quote)))
    (λ (q : IsLenient mode × (quote ≡ 39)). subst (BeginsOther mode) (sym (e ∙ ap (λ (c : ℕ). c ∷ inner) q.1)) (other_first mode 39 inner (λ a. true≢false a.no_single)))
    (quote_is (strictness mode) quote is)

scalar_other : (mode : Mode) (bytes : List ℕ) (t : Tree) → IsScalar mode bytes t → as_number t ≡ None → BeginsOther mode bytes
scalar_other mode bytes t (literal_value (null_word is)) e = word_other mode 110 bytes (omega arith) (word_starts (strictness mode) 110 (codes "ull") bytes is)
scalar_other mode bytes t (literal_value (true_word is)) e = word_other mode 116 bytes (omega arith) (word_starts (strictness mode) 116 (codes "rue") bytes is)
scalar_other mode bytes t (literal_value (false_word is)) e = word_other mode 102 bytes (omega arith) (word_starts (strictness mode) 102 (codes "alse") bytes is)
scalar_other mode bytes t (string_value {quote = quote} {text = text} {mark = mark} is q) e = let o = quoted_starts mode quote bytes text mark q in quote_other mode quote bytes o.0 is o.1
scalar_other mode bytes t (number_value is) e = absurd (let never : as_number t ≡ None = e in cc)

value_other : (mode : Mode) (Value : List ℕ → Tree → Type 0) (bytes : List ℕ) (t : Tree) → IsValue mode Value bytes t → as_number t ≡ None → BeginsOther mode bytes
value_other mode Value bytes t (scalar s) e = scalar_other mode bytes t s e
value_other mode Value bytes t (empty_array {whitespace = whitespace} b) e = other_first mode 91 (whitespace ++ 93 ∷ []) (λ a. true≢false a.no_bracket)
value_other mode Value bytes t (full_array {body = body} j n) e = other_first mode 91 (body ++ 93 ∷ []) (λ a. true≢false a.no_bracket)
value_other mode Value bytes t (empty_object {whitespace = whitespace} b) e = other_first mode 123 (whitespace ++ 125 ∷ []) (λ a. true≢false a.no_brace)
value_other mode Value bytes t (full_object {body = body} j d) e = other_first mode 123 (body ++ 125 ∷ []) (λ a. true≢false a.no_brace)

derived_other : (mode : Mode) (depth : ℕ) (bytes : List ℕ) (t : Tree) → Derives mode depth bytes t → as_number t ≡ None → BeginsOther mode bytes
derived_other mode zero bytes t d e = scalar_other mode bytes t d e
derived_other mode (suc depth) bytes t d e = value_other mode (Derives mode depth) bytes t d e

begins_longer : (mode : Mode) (bytes rest : List ℕ) → StartsNumber mode bytes → StartsNumber mode (bytes ++ rest)
begins_longer mode bytes rest s = record { first = s.first; others = s.others ++ rest; whole = ap (λ (u : List ℕ). u ++ rest) s.whole; begun = s.begun; apart = s.apart }

-- ---- both are numbers

pub both_numbers : (mode : Mode) (m n : ℕ) (bytes rest : List ℕ) (t u : Tree) → Derives mode m bytes t → Derives mode n (bytes ++ rest) u → rest ≢ [] → (as_number t ≢ None) × (as_number u ≢ None)
unfolding BeginsOther
both_numbers mode m n bytes rest t u d e some = (first, second)
  where
    first : as_number t ≢ None
    first none = some (whole_if_no_number mode m n bytes rest t u d e (λ k. no_number t k none)).0

    second : as_number u ≢ None
    second none = derived_other mode n (bytes ++ rest) u e none (begins_longer mode bytes rest (derived_begins mode m bytes t d (a_number t first)))

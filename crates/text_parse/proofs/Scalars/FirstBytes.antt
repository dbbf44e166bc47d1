-- Which scalar it is, by the first byte.
use Rattle.std.proofs.Common.{◌≡◌, ◌≤◌, ℕ, true, false, true≢false, List, [], ◌∷◌, codes, refl, sym, ap, ◌∙◌, arith, if◌then◌else◌}
use Rattle.std.proofs.lemmas.Bool.{cond-false, cond-true}
use Rattle.std.specs.Char.{to_ascii_lowercase}
use Rattle.std.specs.Prelude.{◌||◌, ◌==◌}
use Rattle.jsonb_spec.specs.Code.Code.{expected_some_value}
use Rattle.jsonb_spec.specs.Mode.{Mode, Strictness, strict, lenient, strictness}
use Rattle.jsonb_spec.specs.Tree.{Tree, boolean}
use Rattle.jsonb_spec.specs.Parsing.{Parse, on_byte, reject}
use Rattle.jsonb_spec.specs.Parsing.Scalar.{begins_letter, begins_number, begins_single_quote, null_or, number_or_fault, number_value_at, on_single_quote, other_scalar_at, quoted_at, scalar_at, word_at, words_at}
use Rattle.text_parse.proofs.Steps.Outcomes.{words_number}
use Rattle.text_parse.proofs.Scalars.Encodings.{IsApart, number_start_apart}
use Rattle.text_parse.proofs.Steps.Advancing.{single-false}

-- ---- by the strictness

-- a word or a number, as words of this strictness are
abbrev pub words_as : ℕ → Mode → Strictness → List ℕ → Parse Tree
words_as size mode s bytes =
    if begins_letter s 110 bytes then null_or size s (number_value_at size mode) bytes
    else (if begins_letter s 116 bytes then word_at size s (codes "true") (boolean true) bytes
    else (if begins_letter s 102 bytes then word_at size s (codes "false") (boolean false) bytes
    else (if begins_number s bytes then number_value_at size mode bytes else reject size expected_some_value 1 bytes)))

-- a scalar, as scalars of this strictness are
abbrev pub scalar_as : ℕ → Mode → Strictness → List ℕ → Parse Tree
scalar_as size mode s bytes =
    on_byte 34 bytes (quoted_at size mode 34) (on_single_quote s bytes (quoted_at size mode 39) (words_as size mode s bytes))

-- so the strictness of a mode says which scalar it is
pub scalar_is : (size : ℕ) (mode : Mode) (bytes : List ℕ) → scalar_at size mode bytes ≡ scalar_as size mode (strictness mode) bytes
unfolding scalar_at
scalar_is size mode bytes = refl

-- ---- a digit or a minus comes next

pub single-apart : (strictness : Strictness) (b : ℕ) (rest : List ℕ) → IsApart b → begins_single_quote strictness (b ∷ rest) ≡ false
single-apart strict b rest a = refl
single-apart lenient b rest a = cond-false _ true false a.no_single

pub letter-apart : (strictness : Strictness) (c b : ℕ) (rest : List ℕ) → 97 ≤ c → IsApart b → begins_letter strictness c (b ∷ rest) ≡ false
letter-apart strictness c b rest high a = cond-false _ true false (a.no_letter strictness c high)

other_number : (size : ℕ) (mode : Mode) (bytes : List ℕ) → begins_number strict bytes ≡ true → other_scalar_at size mode bytes ≡ number_or_fault size mode bytes
other_number size mode [] e = absurd (true≢false (sym e))
other_number size mode (b ∷ rest) e =
    let a = number_start_apart b e in
    single-false (strictness mode) (b ∷ rest) (quoted_at size mode 39) (words_at size mode (b ∷ rest)) (single-apart (strictness mode) b rest a)
    ∙ words_number size mode (b ∷ rest) (letter-apart (strictness mode) 110 b rest (omega arith) a) (letter-apart (strictness mode) 116 b rest (omega arith) a) (letter-apart (strictness mode) 102 b rest (omega arith) a)

-- what begins a number in a strict mode begins one in each
pub wider_start : (strictness : Strictness) (bytes : List ℕ) → begins_number strict bytes ≡ true → begins_number strictness bytes ≡ true
wider_start strict bytes e = e
wider_start lenient [] e = absurd (true≢false (sym e))
wider_start lenient (b ∷ rest) e = ap (λ begins. begins || (b == 43) || (b == 46) || (to_ascii_lowercase b == 105)) e

-- and a number is parsed there
pub number_here : (size : ℕ) (mode : Mode) (bytes : List ℕ) → begins_number strict bytes ≡ true → other_scalar_at size mode bytes ≡ number_value_at size mode bytes
number_here size mode bytes begun =
    other_number size mode bytes begun
    ∙ cond-true (begins_number (strictness mode) bytes) (number_value_at size mode bytes) (reject size expected_some_value 1 bytes) (wider_start (strictness mode) bytes begun)

-- What UTF-8 contents mean is UTF-8.
use Rattle.std.proofs.Common.{List, [], ◌∷◌, ◌≡◌, ℕ, zero, suc, ◌*◌, rules, ◌+◌, ◌<◌, ◌++◌, length, get_or, Bool, true, false, cond, eqb, ◌||◌, ⊎_elim, Option, Some, None, All, sym, subst, arith, refl}
use Rattle.std.proofs.Math.Seq.{take-append_seam, drop-append_seam, get_or-append_seam}
use Rattle.std.proofs.Math.Utf8.{scalar}
use Rattle.std.proofs.lemmas.Bool.Decides.{nat_tests}
use Rattle.std.proofs.lemmas.Bool.{cases_Bool}
use Rattle.std.proofs.lemmas.List.{append_assoc}
use Rattle.std.proofs.lemmas.Str.{IsUtf8-append, IsUtf8-drop, IsUtf8-encode, IsUtf8-from_ascii, IsUtf8-take, IsCharBoundary-before_ascii, IsCharBoundary-after_ascii}
use Rattle.std.specs.Char.{encode_utf8}
use Rattle.std.specs.List.{flat_map, AllByRecursion}
use Rattle.std.specs.Str.{IsAscii, IsUtf8}
use Rattle.jsonb_spec.specs.Mode.{Mode, Strictness, strict, lenient, strictness}
use Rattle.jsonb_spec.specs.Grammar.StringBody.{Item, raw, escape, unit, after_u, encoding, IsItem, IsHexDigit, escaped_byte, alone, together, meaning}
use Rattle.jsonb_core.proofs.Strings.Units.{alone-retained, alone-character, together-retained, together-character, unit_digits}
use Rattle.std.specs.Char.Utf16.{is_high_surrogate, is_low_surrogate, surrogate_pair_char}
use Rattle.std.specs.Str.Parse.{digits_value}

-- ---- ASCII bytes in UTF-8

byte_utf8 : (b : ℕ) → b < 128 → IsUtf8 (b ∷ [])
byte_utf8 b low = IsUtf8-from_ascii (b ∷ []) one
  where
    one : IsAscii (b ∷ [])
    one zero = low
    one (suc k) = omega arith

ascii_onto : (b : ℕ) (xs : List ℕ) → b < 128 → IsUtf8 xs → IsUtf8 (b ∷ xs)
ascii_onto b xs low utf8 = IsUtf8-append (b ∷ []) xs (byte_utf8 b low) utf8

ascii_off : (b : ℕ) (xs : List ℕ) → b < 128 → IsUtf8 (b ∷ xs) → IsUtf8 xs
ascii_off b xs low utf8 = IsUtf8-drop (b ∷ xs) 1 utf8 (IsCharBoundary-after_ascii (b ∷ xs) 0 utf8 (omega arith) low)

at_seam : (xs ys : List ℕ) (b : ℕ) → b < 128 → get_or (xs ++ b ∷ ys) (length xs) 0 < 128
at_seam xs ys b low = rw (get_or-append_seam xs b ys 0) low

length_seam : (xs ys : List ℕ) (b : ℕ) → length xs < length (xs ++ b ∷ ys)
length_seam [] ys b = omega arith
length_seam (x ∷ xs) ys b = omega (arith, length_seam xs ys b)

before_ascii : (xs ys : List ℕ) (b : ℕ) → b < 128 → IsUtf8 (xs ++ b ∷ ys) → IsUtf8 xs
before_ascii xs ys b low utf8 =
    subst IsUtf8 (take-append_seam xs (b ∷ ys)) (IsUtf8-take (xs ++ b ∷ ys) (length xs) utf8 (IsCharBoundary-before_ascii (xs ++ b ∷ ys) (length xs) (length_seam xs ys b) (at_seam xs ys b low)))

from_ascii : (xs ys : List ℕ) (b : ℕ) → b < 128 → IsUtf8 (xs ++ b ∷ ys) → IsUtf8 (b ∷ ys)
from_ascii xs ys b low utf8 =
    subst IsUtf8 (drop-append_seam xs (b ∷ ys)) (IsUtf8-drop (xs ++ b ∷ ys) (length xs) utf8 (IsCharBoundary-before_ascii (xs ++ b ∷ ys) (length xs) (length_seam xs ys b) (at_seam xs ys b low)))

-- ---- the bytes of escapes

digit_low : (b : ℕ) → IsHexDigit b → b < 128
digit_low b h = grind (arith, nat_tests)

digits_off : (digits rest : List ℕ) → All IsHexDigit digits → IsUtf8 (digits ++ rest) → IsUtf8 rest
digits_off [] rest each utf8 = utf8
digits_off (d ∷ digits) rest each utf8 =
    digits_off digits rest (λ k x h. each (suc k) x (omega (arith, h))) (ascii_off d (digits ++ rest) (digit_low d (each 0 0 (omega arith))) utf8)

digits_onto : (digits rest : List ℕ) → All IsHexDigit digits → IsUtf8 rest → IsUtf8 (digits ++ rest)
digits_onto [] rest each utf8 = utf8
digits_onto (d ∷ digits) rest each utf8 =
    ascii_onto d (digits ++ rest) (digit_low d (each 0 0 (omega arith))) (digits_onto digits rest (λ k x h. each (suc k) x (omega (arith, h))) utf8)

unit_off : (braces : Bool) (digits rest : List ℕ) → All IsHexDigit digits → IsUtf8 (after_u braces digits ++ rest) → IsUtf8 rest
unit_off false digits rest each utf8 = digits_off digits rest each utf8
unit_off true digits rest each utf8 =
    let inner = ascii_off 123 ((digits ++ 125 ∷ []) ++ rest) (omega arith) utf8 in
    ascii_off 125 rest (omega arith) (digits_off digits (125 ∷ rest) each (subst IsUtf8 (append_assoc digits (125 ∷ []) rest) inner))

-- the escapes as a table, and the byte beside a letter
standard_escapes : List (ℕ × ℕ)
standard_escapes = (34, 34) ∷ (92, 92) ∷ (47, 47) ∷ (98, 8) ∷ (102, 12) ∷ (110, 10) ∷ (114, 13) ∷ (116, 9) ∷ []

byte_beside : ℕ → List (ℕ × ℕ) → Option ℕ
byte_beside letter [] = None
byte_beside letter (pair ∷ pairs) = cond (eqb letter pair.0) (Some pair.1) (byte_beside letter pairs)

IsLowPair : ℕ × ℕ → Type 0
IsLowPair pair = (pair.0 < 128) × (pair.1 < 128)

beside_low : (letter byte : ℕ) (pairs : List (ℕ × ℕ)) → AllByRecursion IsLowPair pairs → byte_beside letter pairs ≡ Some byte → (letter < 128) × (byte < 128)
unfolding IsLowPair byte_beside
beside_low letter byte [] low is = absurd (let never : ◌≡◌ {A = Option ℕ} None (Some byte) = is in cc)
beside_low letter byte (pair ∷ pairs) low is = by_test (eqb letter pair.0) refl (beside_low letter byte pairs low.1) is
  where
    by_test : (t : Bool) → eqb letter pair.0 ≡ t → (byte_beside letter pairs ≡ Some byte → (letter < 128) × (byte < 128)) → cond t (Some pair.1) (byte_beside letter pairs) ≡ Some byte → (letter < 128) × (byte < 128)
    by_test true same others e =
        let value : pair.1 ≡ byte = cc in
        let first : letter ≡ pair.0 = grind (arith, nat_tests) in
        (omega (arith, first, low.0.0), omega (arith, value, low.0.1))
    by_test false other others e = others e

escape_low : (s : Strictness) (letter byte : ℕ) → escaped_byte s letter ≡ Some byte → (letter < 128) × (byte < 128)
unfolding IsLowPair byte_beside standard_escapes
escape_low strict letter byte is = beside_low letter byte standard_escapes (search rules) is
escape_low lenient letter byte is = beside_low letter byte ((39, 39) ∷ standard_escapes) (search rules) is

-- ---- what units mean

digit_sum : (a b c d : ℕ) → a < 16 → b < 16 → c < 16 → d < 16 → a * 4096 + b * 256 + c * 16 + d < 65536
digit_sum a b c d p q r s = omega arith

unit_small : (digits : List ℕ) → length digits ≡ 4 → All IsHexDigit digits → digits_value 16 digits < 65536
unit_small digits four each = subst (λ n. n < 65536) (sym (unit_digits digits four)) (digit_sum _ _ _ _ (each 0 0 (omega (arith, four))) (each 1 0 (omega (arith, four))) (each 2 0 (omega (arith, four))) (each 3 0 (omega (arith, four))))

small_scalar : (value : ℕ) → value < 65536 → (is_high_surrogate value || is_low_surrogate value) ≡ false → scalar value ≡ true
small_scalar value small none = grind (arith, nat_tests)

paired_scalar : (high low : ℕ) → is_high_surrogate high ≡ true → is_low_surrogate low ≡ true → scalar (surrogate_pair_char high low) ≡ true
paired_scalar high low p q = grind (arith, nat_tests)

verbatim_onto : (digits rest : List ℕ) → All IsHexDigit digits → IsUtf8 rest → IsUtf8 (encoding (unit false digits) ++ rest)
verbatim_onto digits rest each utf8 = ascii_onto 92 (117 ∷ (digits ++ rest)) (omega arith) (ascii_onto 117 (digits ++ rest) (omega arith) (digits_onto digits rest each utf8))

alone_onto : (digits rest : List ℕ) → length digits ≡ 4 → All IsHexDigit digits → IsUtf8 rest → IsUtf8 (alone digits ++ rest)
alone_onto digits rest four each utf8 =
    ⊎_elim
    (λ half. subst (λ xs. IsUtf8 (xs ++ rest)) (sym (alone-retained digits half)) (verbatim_onto digits rest each utf8))
    (λ whole. subst (λ xs. IsUtf8 (xs ++ rest)) (sym (alone-character digits whole)) (IsUtf8-append (encode_utf8 (digits_value 16 digits)) rest (IsUtf8-encode (digits_value 16 digits) (small_scalar (digits_value 16 digits) (unit_small digits four each) whole)) utf8))
    (cases_Bool (is_high_surrogate (digits_value 16 digits) || is_low_surrogate (digits_value 16 digits)))

together_onto : (first next rest : List ℕ) → is_high_surrogate (digits_value 16 first) ≡ true → All IsHexDigit first → All IsHexDigit next → IsUtf8 rest → IsUtf8 (together first next ++ rest)
together_onto first next rest high each others utf8 =
    ⊎_elim
    (λ low. subst (λ xs. IsUtf8 (xs ++ rest)) (sym (together-character first next low)) (IsUtf8-append (encode_utf8 (surrogate_pair_char (digits_value 16 first) (digits_value 16 next))) rest (IsUtf8-encode (surrogate_pair_char (digits_value 16 first) (digits_value 16 next)) (paired_scalar (digits_value 16 first) (digits_value 16 next) high low)) utf8))
    (λ other. subst (λ xs. IsUtf8 (xs ++ rest)) (sym (together-retained first next other)) (subst IsUtf8 (sym (append_assoc (encoding (unit false first)) (encoding (unit false next)) rest)) (verbatim_onto first (encoding (unit false next) ++ rest) each (verbatim_onto next rest others utf8))))
    (cases_Bool (is_low_surrogate (digits_value 16 next)))

-- ---- all items

-- what follows a unit
after_unit : (braces : Bool) (run digits rest : List ℕ) → All IsHexDigit digits → IsUtf8 (run ++ 92 ∷ 117 ∷ (after_u braces digits ++ rest)) → IsUtf8 rest
after_unit braces run digits rest each utf8 =
    unit_off braces digits rest each
    (ascii_off 117 (after_u braces digits ++ rest) (omega arith) (ascii_off 92 (117 ∷ (after_u braces digits ++ rest)) (omega arith) (from_ascii run (117 ∷ (after_u braces digits ++ rest)) 92 (omega arith) utf8)))

one_unit : (braces : Bool) (run digits rest text : List ℕ) → length digits ≡ 4 → All IsHexDigit digits → IsUtf8 (run ++ 92 ∷ 117 ∷ (after_u braces digits ++ rest)) → (IsUtf8 rest → IsUtf8 text) → IsUtf8 (run ++ (alone digits ++ text))
one_unit braces run digits rest text four each utf8 others =
    IsUtf8-append run (alone digits ++ text) (before_ascii run (117 ∷ (after_u braces digits ++ rest)) 92 (omega arith) utf8)
    (alone_onto digits text four each (others (after_unit braces run digits rest each utf8)))

-- a unit and the one right after it
two_units : (p q : Bool) (run first next rest text others : List ℕ) → (length first ≡ 4) × All IsHexDigit first → (length next ≡ 4) × All IsHexDigit next → IsUtf8 (run ++ 92 ∷ 117 ∷ (after_u p first ++ 92 ∷ 117 ∷ (after_u q next ++ rest)))
    → (IsUtf8 rest → IsUtf8 text) → (IsUtf8 (92 ∷ 117 ∷ (after_u q next ++ rest)) → IsUtf8 others) → IsUtf8 (run ++ cond (is_high_surrogate (digits_value 16 first)) (together first next ++ text) (alone first ++ others))
two_units p q run first next rest text others one two utf8 behind both = by_high (is_high_surrogate (digits_value 16 first)) refl
  where
    by_high : (t : Bool) → is_high_surrogate (digits_value 16 first) ≡ t → IsUtf8 (run ++ cond t (together first next ++ text) (alone first ++ others))
    by_high true high =
        let second = after_unit p run first (92 ∷ 117 ∷ (after_u q next ++ rest)) one.1 utf8 in
        IsUtf8-append run (together first next ++ text) (before_ascii run (117 ∷ (after_u p first ++ 92 ∷ 117 ∷ (after_u q next ++ rest))) 92 (omega arith) utf8)
        (together_onto first next text high one.1 two.1 (behind (after_unit q [] next rest two.1 second)))
    by_high false low = one_unit p run first (92 ∷ 117 ∷ (after_u q next ++ rest)) others one.0 one.1 utf8 both

-- the items behind a run of raw bytes
pub run_utf8 : (mode : Mode) (run : List ℕ) (items : List Item) → AllByRecursion (IsItem mode) items → IsUtf8 (run ++ flat_map encoding items) → IsUtf8 (run ++ meaning items)
unfolding meaning
run_utf8 mode run [] each utf8 = utf8
run_utf8 mode run (raw byte ∷ items) each utf8 =
    subst IsUtf8 (append_assoc run (byte ∷ []) (meaning items)) (run_utf8 mode (run ++ byte ∷ []) items each.1 (subst IsUtf8 (sym (append_assoc run (byte ∷ []) (flat_map encoding items))) utf8))
run_utf8 mode run (escape letter byte ∷ items) each utf8 =
    let low = escape_low (strictness mode) letter byte each.0 in
    let rest = ascii_off letter (flat_map encoding items) low.0 (ascii_off 92 (letter ∷ flat_map encoding items) (omega arith) (from_ascii run (letter ∷ flat_map encoding items) 92 (omega arith) utf8)) in
    IsUtf8-append run (byte ∷ meaning items) (before_ascii run (letter ∷ flat_map encoding items) 92 (omega arith) utf8) (ascii_onto byte (meaning items) low.1 (run_utf8 mode [] items each.1 rest))
run_utf8 mode run (unit p first ∷ []) each utf8 = one_unit p run first [] [] each.0.0 each.0.1 utf8 (λ h. h)
run_utf8 mode run (unit p first ∷ raw byte ∷ items) each utf8 =
    one_unit p run first (flat_map encoding (raw byte ∷ items)) (meaning (raw byte ∷ items)) each.0.0 each.0.1 utf8 (run_utf8 mode [] (raw byte ∷ items) each.1)
run_utf8 mode run (unit p first ∷ escape letter byte ∷ items) each utf8 =
    one_unit p run first (flat_map encoding (escape letter byte ∷ items)) (meaning (escape letter byte ∷ items)) each.0.0 each.0.1 utf8 (run_utf8 mode [] (escape letter byte ∷ items) each.1)
run_utf8 mode run (unit p first ∷ unit q next ∷ items) each utf8 =
    two_units p q run first next (flat_map encoding items) (meaning items) (meaning (unit q next ∷ items)) (each.0.0, each.0.1) (each.1.0.0, each.1.0.1) utf8 (run_utf8 mode [] items each.1.1) (run_utf8 mode [] (unit q next ∷ items) each.1)

pub meaning_utf8 : (mode : Mode) (items : List Item) → AllByRecursion (IsItem mode) items → IsUtf8 (flat_map encoding items) → IsUtf8 (meaning items)
meaning_utf8 mode items each utf8 = run_utf8 mode [] items each utf8

-- The result of parsing a hexadecimal, case by case.
use Rattle.std.proofs.Common.{◌⊎◌, inl, inr, ◌≡◌, ◌≢◌, ℕ, ◌+◌, ◌<◌, ◌≤◌, ◌^◌, Bool, true, false, Option, Some, None, List, [], ◌∷◌, length, take, drop, refl, sym, ap, ◌∙◌, arith, Ok, ⊎_elim, suc}
use Rattle.std.specs.Prelude.{slice_index, ◌==◌, is_some}
use Rattle.std.specs.Char.{digit_value}
use Rattle.std.specs.Option.{SomeIff}
use Rattle.std.specs.Str.Parse.{AllDigits, digits_value}
use Rattle.std.proofs.lemmas.Bool.{cases_lt}
use Rattle.std.proofs.lemmas.Bool.Decides.{nat_tests}
use Rattle.jsonb_spec.specs.Tree.{Num}
use Rattle.jsonb_spec.specs.Grammar.ExtendedNumber.{hexadecimal_number}
use Rattle.jsonb_spec.specs.Parsing.ExtendedNumber.{invalid, Scanned, hexadecimal_length, hexadecimal_fits, fraction_scan, hexadecimal_scan}
use Rattle.text_scan.proofs.Numbers.Steps.{is_below, is_not_below, is_zero}

-- a text without a number that a form holds
abbrev pub without_number : ℕ → Scanned
without_number end = Ok (None, end)

pub taken_digits : (bs : List ℕ) → AllDigits 16 (take (hexadecimal_length bs) bs) × (16 ≤ digit_value (slice_index bs (hexadecimal_length bs))) × (hexadecimal_length bs ≤ length bs)
unfolding hexadecimal_length
taken_digits [] = (tt, omega arith, omega arith)
taken_digits (b ∷ bs) =
    let rest = taken_digits bs in
    let one : 1 + hexadecimal_length bs ≡ suc (hexadecimal_length bs) = omega arith in
    ⊎_elim
    (λ digit. rw (is_below (digit_value b) 16 digit, one) ((digit, rest.0), rest.1, omega (arith, rest.2)))
    (λ other. rw (is_not_below (digit_value b) 16 (omega (arith, other))) (tt, omega (arith, other), omega arith)) (cases_lt (digit_value b) 16)

pub fits_is : (r : Option ℕ) (ds : List ℕ) → SomeIff r (digits_value 16 ds < 2 ^ 128) (digits_value 16 ds) → is_some r ≡ hexadecimal_fits ds
fits_is None ds h = sym (is_not_below (digits_value 16 ds) (2 ^ 128) (omega (arith, h)))
fits_is (Some v) ds h = sym (is_below (digits_value 16 ds) (2 ^ 128) h.0)

some_tested : (n : ℕ) → n ≢ 0 → (n == 0) ≡ false
some_tested n e = grind (arith, nat_tests)

pub fraction_without_digits : (offset n : ℕ) (fits : Bool) (bs : List ℕ) → n ≡ hexadecimal_length bs → n ≡ 0 → invalid offset ≡ fraction_scan offset fits bs
unfolding fraction_scan
fraction_without_digits offset n fits bs e none = rw (← e, is_zero n none) refl

pub fraction_after_past : (offset n : ℕ) (fits : Bool) (bs : List ℕ) → n ≡ hexadecimal_length bs → n ≢ 0 → fits ≡ false → invalid (offset + n) ≡ fraction_scan offset fits bs
unfolding fraction_scan
fraction_after_past offset n fits bs e some past = rw (← e, some_tested n some, past) refl

pub fraction_not_representable : (offset n : ℕ) (fits : Bool) (bs : List ℕ) → n ≡ hexadecimal_length bs → n ≢ 0 → fits ≡ true → digits_value 16 (take n bs) < 2 ^ 128 → without_number (offset + n) ≡ fraction_scan offset fits bs
unfolding fraction_scan
fraction_not_representable offset n fits bs e some whole small = rw (← e, some_tested n some, whole, is_below (digits_value 16 (take n bs)) (2 ^ 128) small) refl

pub fraction_past : (offset n : ℕ) (fits : Bool) (bs : List ℕ) → n ≡ hexadecimal_length bs → n ≢ 0 → fits ≡ true → ¬ (digits_value 16 (take n bs) < 2 ^ 128) → invalid (offset + n) ≡ fraction_scan offset fits bs
unfolding fraction_scan
fraction_past offset n fits bs e some whole large = rw (← e, some_tested n some, whole, is_not_below (digits_value 16 (take n bs)) (2 ^ 128) (omega (arith, large))) refl

pub hexadecimal_without_digits : (offset n : ℕ) (negative : Bool) (bs : List ℕ) → n ≡ hexadecimal_length bs → n ≡ 0 → invalid offset ≡ hexadecimal_scan offset negative bs
unfolding hexadecimal_scan
hexadecimal_without_digits offset n negative bs e none = rw (← e, is_zero n none) refl

pub hexadecimal_with_point : (offset n : ℕ) (negative fits : Bool) (bs : List ℕ) → n ≡ hexadecimal_length bs → n ≢ 0 → slice_index bs n ≡ 46 → fits ≡ hexadecimal_fits (take n bs) → fraction_scan (offset + n + 1) fits (drop (n + 1) bs) ≡ hexadecimal_scan offset negative bs
unfolding hexadecimal_scan
hexadecimal_with_point offset n negative fits bs e some point same = rw (← e, some_tested n some, point, same) refl

point_tested : (b : ℕ) → b ≢ 46 → (b == 46) ≡ false
point_tested b h = grind (arith, nat_tests)

pub hexadecimal_past : (offset n : ℕ) (negative : Bool) (bs : List ℕ) → n ≡ hexadecimal_length bs → n ≢ 0 → slice_index bs n ≢ 46 → ¬ (digits_value 16 (take n bs) < 2 ^ 128) → invalid (offset + n) ≡ hexadecimal_scan offset negative bs
unfolding hexadecimal_scan
hexadecimal_past offset n negative bs e some no_point large = rw (← e, some_tested n some, point_tested (slice_index bs n) no_point, is_not_below (digits_value 16 (take n bs)) (2 ^ 128) (omega (arith, large))) refl

pub hexadecimal_whole_at : (offset n m : ℕ) (negative : Bool) (r : Option Num) (bs : List ℕ) → n ≡ hexadecimal_length bs → n ≢ 0 → slice_index bs n ≢ 46 → digits_value 16 (take n bs) < 2 ^ 128 → m ≡ digits_value 16 (take n bs) → r ≡ hexadecimal_number negative m → ◌≡◌ {A = Scanned} (Ok (r, offset + n)) (hexadecimal_scan offset negative bs)
unfolding hexadecimal_scan
hexadecimal_whole_at offset n m negative r bs e some no_point small value number =
    let there : r ≡ hexadecimal_number negative (digits_value 16 (take n bs)) = number ∙ ap (hexadecimal_number negative) value in
    rw (← e, some_tested n some, point_tested (slice_index bs n) no_point, is_below (digits_value 16 (take n bs)) (2 ^ 128) small, there) refl

-- the same by what was tested of the digits' values
pub fraction_rejected : (offset n : ℕ) (fits : Bool) (r : Option ℕ) (bs : List ℕ) → n ≡ hexadecimal_length bs → n ≢ 0 → SomeIff r (digits_value 16 (take n bs) < 2 ^ 128) (digits_value 16 (take n bs)) → (fits ≡ false) ⊎ ((fits ≡ true) × (r ≡ None)) → invalid (offset + n) ≡ fraction_scan offset fits bs
fraction_rejected offset n fits r bs e some h (inl past) = fraction_after_past offset n fits bs e some past
fraction_rejected offset n fits None bs e some h (inr (whole, none)) = fraction_past offset n fits bs e some whole h
fraction_rejected offset n fits (Some v) bs e some h (inr (whole, none)) = absurd (cc)

pub fraction_without_number : (offset n : ℕ) (fits : Bool) (r : Option ℕ) (bs : List ℕ) → n ≡ hexadecimal_length bs → n ≢ 0 → SomeIff r (digits_value 16 (take n bs) < 2 ^ 128) (digits_value 16 (take n bs)) → fits ≡ true → (r ≡ None → ⊥) → without_number (offset + n) ≡ fraction_scan offset fits bs
fraction_without_number offset n fits (Some v) bs e some h whole found = fraction_not_representable offset n fits bs e some whole h.0
fraction_without_number offset n fits None bs e some h whole found = absurd (found refl)

pub no_value : (r : Option ℕ) → is_some r ≡ false → r ≡ None
no_value None h = refl
no_value (Some v) h = absurd (cc)

pub some_value : (r : Option ℕ) → is_some r ≡ true → r ≡ None → ⊥
some_value None h none = absurd (cc)
some_value (Some v) h none = absurd (cc)

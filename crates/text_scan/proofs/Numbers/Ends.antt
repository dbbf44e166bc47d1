-- What is found of a number, and else that no number can end there.
use Rattle.std.proofs.Common.{◌≡◌, ◌⊎◌, ℕ, ◌+◌, ◌-◌, ◌<◌, ◌≤◌, ◌^◌, Bool, true, false, List, length, take, drop, refl, sym, subst, ap, ◌∙◌, inl, inr, ⊎_elim, arith, Option, Some, None, Ok, Err}
use Rattle.std.specs.Prelude.{slice_index, slice_range, ◌==◌, nat_lt, nat_le, MatchOption}
use Rattle.std.specs.Str.Parse.{digits_value}
use Rattle.std.proofs.lemmas.Bool.{cases_eq, cases_lt, cases_Bool}
use Rattle.std.proofs.lemmas.Bool.Decides.{nat_tests}
use Rattle.jsonb_spec.specs.Tree.{Num}
use Rattle.jsonb_spec.specs.Grammar.StandardNumber.{IsInteger, IsStandardNumber, IsStandardText}
use Rattle.jsonb_spec.specs.Parsing.Number.{End, then_from, digits_length, sign_end, exponent_from, fraction_from, has_minus, whole_start, standard_end, integer_of, whole_digits, integer_at}
use Rattle.text_scan.proofs.Numbers.Steps.{differs, digits_more, ok_no_err, then_ok, by_digits, IsWholeAt, whole_end, HasWhole, whole_missing, whole_needless, whole_found}
use Rattle.text_scan.proofs.Numbers.Scan.{IsDigitRun, IsScan, inside_of, digits_run, fraction_is, fraction_fault_is, exponent_is, exponent_fault_is}
use Rattle.text_scan.proofs.Numbers.Automaton.{Start, state_at, NoneEnds, EndsWhole}
use Rattle.text_scan.proofs.Numbers.ScanStates.{due, fault_no_digit, fault_needless_zero, whole_state, fraction_state, fault_bare_point, fault_bare_mark}
use Rattle.text_scan.proofs.Numbers.ScanText.{fraction_within, scan_parts, scan_number_text, scan_unrepresentable}
use Rattle.text_scan.proofs.Numbers.Forms.{negated_small}
use Rattle.text_scan.proofs.Numbers.HexadecimalValues.{signed_fits_64}
use Rattle.text_scan.proofs.Numbers.TextParts.{IsStandardUnrepresentable, standard_text_of}

-- ---- the whole part

pub whole_start_within : (bs : List ℕ) → whole_start bs ≤ length bs
whole_start_within bs =
    ⊎_elim
    (λ minus. let byte : slice_index bs 0 ≡ 45 = grind (arith, nat_tests) in rw minus (omega (arith, inside_of bs 0 (omega (arith, byte)))))
    (λ no_minus. rw no_minus (omega arith)) (cases_Bool (slice_index bs 0 == 45))

pub whole_cases : (bs : List ℕ) (start : ℕ) → (digits_length (drop start bs) ≡ 0) ⊎ (((1 < digits_length (drop start bs)) × (slice_index bs start ≡ 48)) ⊎ IsWholeAt bs start)
whole_cases bs start =
    ⊎_elim inl
    (λ some. ⊎_elim
    (λ few. inr (inr (some, inr (omega (arith, few)))))
    (λ many. ⊎_elim
    (λ zero_byte. inr (inl (omega (arith, many), zero_byte)))
    (λ other. inr (inr (some, inl other))) (cases_eq (slice_index bs start) 48))
    (cases_lt (digits_length (drop start bs)) 2))
    (by_digits (digits_length (drop start bs)))

whole_run : (bs : List ℕ) → IsDigitRun bs (whole_start bs) (whole_end bs)
whole_run bs = digits_run bs (whole_start bs) (whole_end bs) (whole_start_within bs) refl

single_zero : (bs : List ℕ) → HasWhole bs → slice_index bs (whole_start bs) ≡ 48 → whole_end bs ≡ whole_start bs + 1
single_zero bs (some, inl other) zero_byte = absurd (other zero_byte)
single_zero bs (some, inr few) zero_byte = omega (arith, some, few)

whole_ends : (bs : List ℕ) → HasWhole bs → EndsWhole (state_at Start bs (whole_end bs))
whole_ends bs has_whole =
    whole_state bs (whole_start bs) (whole_end bs) (due bs (whole_start bs) refl (whole_start_within bs)) (whole_run bs) (omega (arith, has_whole.0)) (single_zero bs has_whole)

-- ---- a number text

-- the text that ends here, with its parts
pub record ScannedTo (bs : List ℕ) (end : ℕ) : Type 0 where
  pub fraction : ℕ
  pub scan : IsScan bs (whole_start bs) (whole_end bs) fraction end

pub scanned : (bs : List ℕ) (end : ℕ) → standard_end bs ≡ Ok end → ScannedTo bs end
scanned bs end at =
    ⊎_elim (λ none. absurd (ok_no_err at (whole_missing bs none)))
    (λ some. ⊎_elim (λ needless. absurd (ok_no_err at (whole_needless bs needless.0 needless.1))) (λ has_whole.
    let parts = then_ok (fraction_from bs (whole_end bs)) (exponent_from bs) end (sym (whole_found bs has_whole) ∙ at) in
    let run = whole_run bs in
    let fraction = fraction_is bs (whole_end bs) parts.0 run.within parts.1 in
    record {
      fraction = parts.0;
      scan = record {
        first = refl;
        digits = run;
        some_digit = omega (arith, has_whole.0);
        no_needless_zero = single_zero bs has_whole;
        fraction_end = fraction;
        exponent_end = exponent_is bs parts.0 end (fraction_within bs (whole_end bs) parts.0 run.within fraction).1 parts.2;
      };
    }) some) (whole_cases bs (whole_start bs))

pub scanned_text : (bs : List ℕ) (end : ℕ) → ScannedTo bs end → IsStandardText (take end bs)
scanned_text bs end s = standard_text_of (take end bs) (has_minus bs) _ _ _ (scan_parts bs (whole_start bs) (whole_end bs) s.fraction end s.scan)

-- ---- no number text

then_err : (r : End) (f : ℕ → End) (offset : ℕ) → then_from r f ≡ Err offset → (r ≡ Err offset) ⊎ ((middle : ℕ) × (r ≡ Ok middle) × (f middle ≡ Err offset))
then_err (Ok middle) f offset at = inr (middle, refl, at)
then_err (Err other) f offset at = inl at

pub none_ends : (bs : List ℕ) (offset : ℕ) → standard_end bs ≡ Err offset → NoneEnds bs
none_ends bs offset at =
    ⊎_elim
    (λ none. fault_no_digit bs (whole_start bs) (due bs (whole_start bs) refl (whole_start_within bs)) (whole_start_within bs) (λ digit. omega (arith, none, digits_more bs (whole_start bs) digit)))
    (λ some. ⊎_elim
    (λ needless. fault_needless_zero bs (whole_start bs) (whole_end bs) (due bs (whole_start bs) refl (whole_start_within bs)) (whole_run bs) needless.1 (omega (arith, needless.0)))
    (λ has_whole. ⊎_elim
    (λ bare. fault_bare_point bs (whole_end bs) (whole_ends bs has_whole) (fraction_fault_is bs (whole_end bs) offset (whole_run bs).within bare))
    (λ parts.
    let run = whole_run bs in
    let fraction = fraction_is bs (whole_end bs) parts.0 run.within parts.1 in
    let done = fraction_state bs (whole_end bs) parts.0 run.within run.ends (whole_ends bs has_whole) fraction in
    fault_bare_mark bs parts.0 (sign_end bs (parts.0 + 1)) done (exponent_fault_is bs parts.0 offset done.within parts.2))
    (then_err (fraction_from bs (whole_end bs)) (exponent_from bs) offset (sym (whole_found bs has_whole) ∙ at))) some) (whole_cases bs (whole_start bs))

-- ---- its number

-- an integer where the type holds it, and else none
pub integer_is : (negative : Bool) (v : ℕ) → MatchOption (integer_of negative v) ((n : Num) → ¬ IsInteger negative v n) (IsInteger negative v)
integer_is false v =
    ⊎_elim
    (λ small. let tested : nat_lt v (2 ^ 64) ≡ true = grind (arith, nat_tests) in rw tested (small, refl))
    (λ great. let tested : nat_lt v (2 ^ 64) ≡ false = grind (arith, nat_tests) in rw tested (λ n h. absurd (omega (arith, great, h.0)))) (cases_lt v (2 ^ 64))
integer_is true v =
    ⊎_elim
    (λ small. let low : v ≤ 2 ^ 63 = omega (arith, small) in let tested : nat_le v (2 ^ 63) ≡ true = grind (arith, nat_tests) in rw tested (signed_fits_64 v low, refl))
    (λ great. let tested : nat_le v (2 ^ 63) ≡ false = grind (arith, nat_tests) in rw tested (λ n h. absurd (omega (arith, great, negated_small v h.0)))) (cases_lt v (2 ^ 63 + 1))

-- the number of the text that ends here, or that it is not representable
pub number_at_end : (bs : List ℕ) (end : ℕ) → ScannedTo bs end → MatchOption (integer_at bs end) (IsStandardUnrepresentable (take end bs)) (IsStandardNumber (take end bs))
unfolding integer_at
number_at_end bs end s =
    let count : whole_end bs - whole_start bs ≡ digits_length (drop (whole_start bs) bs) = omega arith in
    let digits : slice_range bs (whole_start bs) (whole_end bs) ≡ whole_digits bs = ap (λ n. take n (drop (whole_start bs) bs)) count in
    ⊎_elim
    (λ last.
    let tested : (whole_end bs == end) ≡ true = grind (arith, nat_tests) in
    rw tested (by_option (integer_of (has_minus bs) (digits_value 10 (whole_digits bs))) (integer_is (has_minus bs) (digits_value 10 (whole_digits bs)))
    (λ none. scan_unrepresentable bs (whole_start bs) (whole_end bs) s.fraction end s.scan (inr (subst (λ ds. (n : Num) → ¬ IsInteger (has_minus bs) (digits_value 10 ds) n) (sym digits) none)))
    (λ n is_integer. scan_number_text bs (whole_start bs) (whole_end bs) s.fraction end n s.scan last (subst (λ ds. IsInteger (has_minus bs) (digits_value 10 ds) n) (sym digits) is_integer))))
    (λ other. rw (differs (whole_end bs) end other) (scan_unrepresentable bs (whole_start bs) (whole_end bs) s.fraction end s.scan (inl other))) (cases_eq (whole_end bs) end)
  where
    by_option : {P : Type 0} {Q : Num → Type 0} {P' : Type 0} {Q' : Num → Type 0} (o : Option Num) → MatchOption o P Q → (P → P') → ((n : Num) → Q n → Q' n) → MatchOption o P' Q'
    by_option None h none some = none h
    by_option (Some n) h none some = some n h

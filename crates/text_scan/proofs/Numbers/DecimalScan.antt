-- Where the parts of an extended decimal end, by offset.
use Rattle.std.proofs.Common.{◌≡◌, ◌≢◌, ◌⊎◌, ℕ, ◌+◌, ◌-◌, ◌<◌, ◌≤◌, true, false, ◌&&◌, zero, suc, List, length, drop, refl, sym, ap, ◌∙◌, inl, inr, ⊎_elim, arith, Ok, Err, true≢false}
use Rattle.std.specs.Prelude.{slice_index, ◌==◌, nat_lt}
use Rattle.std.proofs.lemmas.Bool.{cases_eq, cases_lt, cases_Bool, and_parts}
use Rattle.std.proofs.lemmas.Bool.Decides.{nat_tests}
use Rattle.jsonb_spec.specs.Parsing.Number.{digits_from, sign_end, exponent_from}
use Rattle.jsonb_spec.specs.Parsing.ExtendedNumber.{core_start, zeros_length, zeros_from, point_from, behind_from, zeros_end, front_end, point_end, behind_end, scale_at, precision_at, lacks_digits, has_second_point, decimal_end}
use Rattle.text_scan.proofs.Numbers.Runs.{run_ends, run_more, run_passes, run_stop, run_within}
use Rattle.text_scan.proofs.Numbers.Steps.{differs, digits_more, ok_no_err}
use Rattle.text_scan.proofs.Numbers.Scan.{IsDigitRun, IsExponentEnd, inside_of, digits_run, exponent_is, sign_end_within}

-- from start to end there are zeros, and none at end
pub record IsZeroRun (bytes : List ℕ) (start end : ℕ) : Type 0 where
  pub ordered : start ≤ end
  pub within : end ≤ length bytes
  pub zeros : (k : ℕ) → start ≤ k → k < end → slice_index bytes k ≡ 48
  pub ends : slice_index bytes end ≢ 48

-- there is no point at start, or a point and digits, if any, up to end
abbrev pub IsPointEnd : List ℕ → ℕ → ℕ → ℕ → Type 0
IsPointEnd bytes start digits end = ((digits ≡ start) × (end ≡ start) × (slice_index bytes start ≢ 46)) ⊎ ((slice_index bytes start ≡ 46) × (digits ≡ start + 1) × IsDigitRun bytes digits end)

-- where the parts of a decimal text begin or end
pub record DecimalParts : Type 0 where
  pub zeros_start : ℕ
  pub whole_start : ℕ
  pub whole_end : ℕ
  pub fraction_start : ℕ
  pub fraction_end : ℕ
  pub end : ℕ

-- the parts of the decimal number text that the bytes begin with
pub record IsDecimalScan (bytes : List ℕ) (p : DecimalParts) : Type 0 where
  pub first : p.zeros_start ≡ sign_end bytes 0
  pub zeros : IsZeroRun bytes p.zeros_start p.whole_start
  pub whole : IsDigitRun bytes p.whole_start p.whole_end
  pub point : IsPointEnd bytes p.whole_end p.fraction_start p.fraction_end
  pub some_digit : (p.zeros_start < p.whole_end) ⊎ (p.fraction_start < p.fraction_end)
  pub exponent : IsExponentEnd bytes p.fraction_end p.end

-- ---- zeros

zeros_more : (bs : List ℕ) (i : ℕ) → slice_index bs i ≡ 48 → zeros_length (drop i bs) ≡ suc (zeros_length (drop (suc i) bs))
unfolding zeros_length
zeros_more bs i h = run_more (λ b. b == 48) refl bs i (ap (λ b. b == 48) h)

zeros_stop : (bs : List ℕ) (i : ℕ) → slice_index bs i ≢ 48 → zeros_length (drop i bs) ≡ 0
unfolding zeros_length
zeros_stop bs i h = run_stop (λ b. b == 48) refl bs i (differs (slice_index bs i) 48 h)

is_48 : (b : ℕ) → (b == 48) ≡ true → b ≡ 48
is_48 b h = grind (arith, nat_tests)

zeros_of : (bs : List ℕ) (n start : ℕ) → zeros_length (drop start bs) ≡ n → start ≤ length bs → IsZeroRun bs start (start + n)
unfolding zeros_length
zeros_of bs n start count within = record {
  ordered = omega arith;
  within = omega (arith, count, run_within (λ b. b == 48) refl bs start within);
  zeros = λ k low high. is_48 (slice_index bs k) (run_passes (λ b. b == 48) refl bs start k low (omega (arith, high, count)));
  ends = λ zero_byte. true≢false (sym (ap (λ b. b == 48) zero_byte) ∙ ap (λ m. slice_index bs (start + m) == 48) (sym count) ∙ run_ends (λ b. b == 48) refl bs start);
}

pub zeros_run : (bs : List ℕ) (start : ℕ) → start ≤ length bs → IsZeroRun bs start (zeros_from bs start)
zeros_run bs start within = zeros_of bs (zeros_length (drop start bs)) start refl within

-- one step of a loop over zeros
pub zeros_go_on : (bs : List ℕ) (i total : ℕ) → slice_index bs i ≡ 48 → total ≡ i + zeros_length (drop i bs) → total ≡ i + 1 + zeros_length (drop (i + 1) bs)
zeros_go_on bs i total here before =
    let one : suc i ≡ i + 1 = omega arith in
    let after : zeros_length (drop (suc i) bs) ≡ zeros_length (drop (i + 1) bs) = ap (λ j. zeros_length (drop j bs)) one in
    omega (arith, before, zeros_more bs i here, after)

pub zeros_end_here : (bs : List ℕ) (i total : ℕ) → slice_index bs i ≢ 48 → total ≡ i + zeros_length (drop i bs) → i ≡ total
zeros_end_here bs i total other before = omega (arith, before, zeros_stop bs i other)

-- the digits after zeros end where all digits do
digits_after : (bs : List ℕ) (n start : ℕ) → zeros_length (drop start bs) ≡ n → digits_from bs (start + n) ≡ digits_from bs start
digits_after bs zero start count = let none : start + 0 ≡ start = omega arith in ap (digits_from bs) none
digits_after bs (suc n) start count =
    let here : slice_index bs start ≡ 48 = ⊎_elim (λ z. z) (λ other. absurd (omega (arith, count, zeros_stop bs start other))) (cases_eq (slice_index bs start) 48) in
    let next : suc start + n ≡ start + suc n = omega arith in
    let rest = digits_after bs n (suc start) (omega (arith, count, zeros_more bs start here)) in
    let same = ap (digits_from bs) next in
    omega (arith, digits_more bs start (omega (arith, here), omega (arith, here)), rest, same)

-- ---- the parts

pub core_within : (bs : List ℕ) → core_start bs ≤ length bs
core_within bs = sign_end_within bs 0 (omega arith)

pub core_zeros : (bs : List ℕ) → IsZeroRun bs (core_start bs) (zeros_end bs)
core_zeros bs = zeros_run bs (core_start bs) (core_within bs)

pub core_digits : (bs : List ℕ) → IsDigitRun bs (core_start bs) (front_end bs)
core_digits bs = digits_run bs (core_start bs) (front_end bs) (core_within bs) refl

pub counted_digits : (bs : List ℕ) → IsDigitRun bs (zeros_end bs) (front_end bs)
counted_digits bs = digits_run bs (zeros_end bs) (front_end bs) (core_zeros bs).within (sym (digits_after bs (zeros_length (drop (core_start bs) bs)) (core_start bs) refl))

point_is : (bs : List ℕ) (start : ℕ) → IsPointEnd bs start (point_from bs start) (behind_from bs start)
point_is bs start =
    ⊎_elim
    (λ point. let inside : start < length bs = inside_of bs start (omega (arith, point)) in
    rw point (inr (refl, refl, digits_run bs (start + 1) (digits_from bs (start + 1)) (omega (arith, inside)) refl)))
    (λ other. rw (differs (slice_index bs start) 46 other) (inl (refl, refl, other))) (cases_eq (slice_index bs start) 46)

pub point_here : (bs : List ℕ) → IsPointEnd bs (front_end bs) (point_end bs) (behind_end bs)
point_here bs = point_is bs (front_end bs)

pub point_ordered : (bytes : List ℕ) (start digits end : ℕ) → start ≤ length bytes → IsPointEnd bytes start digits end → (start ≤ digits) × (digits ≤ end) × (end ≤ length bytes)
point_ordered bytes start digits end within (inl none) = (omega (arith, none.0), omega (arith, none.0, none.1), omega (arith, none.1))
point_ordered bytes start digits end within (inr (point, offset, behind)) = (omega arith, behind.ordered, behind.within)

abbrev pub parts_to : List ℕ → ℕ → DecimalParts
parts_to bs end = record { zeros_start = core_start bs; whole_start = zeros_end bs; whole_end = front_end bs; fraction_start = point_end bs; fraction_end = behind_end bs; end = end }

abbrev pub HasDigits : List ℕ → Type 0
HasDigits bs = (core_start bs < front_end bs) ⊎ (point_end bs < behind_end bs)

-- ---- what is found there

pub has_digits : (bs : List ℕ) → lacks_digits bs ≡ false → HasDigits bs
has_digits bs some =
    ⊎_elim inl
    (λ none. ⊎_elim inr (λ none_behind. absurd (let e : front_end bs - core_start bs + scale_at bs ≡ 0 = omega (arith, none, none_behind) in let t : lacks_digits bs ≡ true = grind (arith, nat_tests) in cc)) (cases_lt (point_end bs) (behind_end bs)))
    (cases_lt (core_start bs) (front_end bs))

pub no_digits : (bs : List ℕ) → lacks_digits bs ≡ true → (front_end bs ≡ core_start bs) × (point_end bs ≡ behind_end bs)
no_digits bs none =
    let e : front_end bs - core_start bs + scale_at bs ≡ 0 = grind (arith, nat_tests) in
    let order = point_ordered bs (front_end bs) (point_end bs) (behind_end bs) (core_digits bs).within (point_here bs) in
    (omega (arith, e, (core_digits bs).ordered), omega (arith, e, order))

pub digits_tested : (bs : List ℕ) → HasDigits bs → lacks_digits bs ≡ false
digits_tested bs (inl some) = let e : 0 < front_end bs - core_start bs + scale_at bs = omega (arith, some) in grind (arith, nat_tests)
digits_tested bs (inr some) = let e : 0 < front_end bs - core_start bs + scale_at bs = omega (arith, some) in grind (arith, nat_tests)

pub second_point : (bs : List ℕ) → has_second_point bs ≡ true → (front_end bs < point_end bs) × (slice_index bs (behind_end bs) ≡ 46)
second_point bs h =
    let first = and_parts (nat_lt (front_end bs) (point_end bs)) (nat_lt (precision_at bs) 76 && (slice_index bs (behind_end bs) == 46)) h in
    let second = and_parts (nat_lt (precision_at bs) 76) (slice_index bs (behind_end bs) == 46) first.1 in
    let some = first.0 in
    let point = second.1 in
    (grind (arith, nat_tests), grind (arith, nat_tests))

-- how parsing a decimal goes on
pub data DecimalCase (bs : List ℕ) : Type 0 where
  no_digit : lacks_digits bs ≡ true → decimal_end bs ≡ Err (point_end bs) → DecimalCase bs
  second : HasDigits bs → has_second_point bs ≡ true → decimal_end bs ≡ Err (behind_end bs) → DecimalCase bs
  further : HasDigits bs → has_second_point bs ≡ false → decimal_end bs ≡ exponent_from bs (behind_end bs) → DecimalCase bs

pub decimal_case : (bs : List ℕ) → DecimalCase bs
unfolding decimal_end
decimal_case bs =
    ⊎_elim (λ none. no_digit none (rw none refl))
    (λ some. ⊎_elim (λ again. second (has_digits bs some) again (rw (some, again) refl)) (λ once. further (has_digits bs some) once (rw (some, once) refl)) (cases_Bool (has_second_point bs)))
    (cases_Bool (lacks_digits bs))

-- where a text ends, its parts are found
pub decimal_scanned : (bs : List ℕ) (end : ℕ) → decimal_end bs ≡ Ok end → IsDecimalScan bs (parts_to bs end)
decimal_scanned bs end at = by_case (decimal_case bs)
  where
    by_case : DecimalCase bs → IsDecimalScan bs (parts_to bs end)
    by_case (no_digit none found) = absurd (ok_no_err at found)
    by_case (second some again found) = absurd (ok_no_err at found)
    by_case (further some once found) =
        let order = point_ordered bs (front_end bs) (point_end bs) (behind_end bs) (core_digits bs).within (point_here bs) in
        record {
          first = refl;
          zeros = core_zeros bs;
          whole = counted_digits bs;
          point = point_here bs;
          some_digit = some;
          exponent = exponent_is bs (behind_end bs) end order.2 (sym found ∙ at);
        }

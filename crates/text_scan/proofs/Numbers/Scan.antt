-- Where the parts of a number end, by offset.
use Rattle.std.specs.Char.{is_ascii_digit}
use Rattle.std.proofs.Common.{◌≡◌, ◌≢◌, ◌⊎◌, ℕ, ◌+◌, ◌<◌, ◌≤◌, true, ◌||◌, zero, suc, List, [], ◌∷◌, length, drop, refl, sym, subst, inl, inr, ⊎_elim, arith, Ok, Err, true≢false, ap, ◌∙◌}
use Rattle.std.specs.Prelude.{slice_index, ◌==◌}
use Rattle.std.specs.Int.{IsInRange}
use Rattle.std.proofs.lemmas.Bool.{cases_eq, cases_Bool}
use Rattle.jsonb_spec.specs.Grammar.StandardNumber.{IsExponentMark}
use Rattle.jsonb_spec.specs.Parsing.Number.{digits_length, digits_from, sign_end, exponent_from, fraction_from, whole_start}
use Rattle.text_scan.proofs.Numbers.Runs.{run_ends, run_passes, run_within}
use Rattle.text_scan.proofs.Numbers.Steps.{no_fraction, no_exponent, fraction_bare, fraction_some, exponent_bare, exponent_some, mark_or_not, by_digits, ok_same, ok_no_err, is_digit, digit_is}

-- from start to end there are digits, and none at end
pub record IsDigitRun (bytes : List ℕ) (start end : ℕ) : Type 0 where
  pub ordered : start ≤ end
  pub within : end ≤ length bytes
  pub digits : (k : ℕ) → start ≤ k → k < end → IsInRange 48 57 (slice_index bytes k)
  pub ends : ¬ IsInRange 48 57 (slice_index bytes end)

-- there is no point at start, or a point and digits up to end
abbrev pub IsFractionEnd : List ℕ → ℕ → ℕ → Type 0
IsFractionEnd bytes start end = ((end ≡ start) × (slice_index bytes start ≢ 46)) ⊎ ((slice_index bytes start ≡ 46) × (start + 1 < end) × IsDigitRun bytes (start + 1) end)

-- a point with no digit after it
abbrev pub IsBarePoint : List ℕ → ℕ → Type 0
IsBarePoint bytes start = (slice_index bytes start ≡ 46) × IsDigitRun bytes (start + 1) (start + 1)

-- there is no exponent mark at start, or one with its sign and digits up to end
abbrev pub IsExponentEnd : List ℕ → ℕ → ℕ → Type 0
IsExponentEnd bytes start end = ((end ≡ start) × ¬ IsExponentMark (slice_index bytes start)) ⊎ (IsExponentMark (slice_index bytes start) × (sign_end bytes (start + 1) < end) × IsDigitRun bytes (sign_end bytes (start + 1)) end)

-- an exponent mark and its sign with no digit after them, at p
abbrev pub IsBareMark : List ℕ → ℕ → ℕ → Type 0
IsBareMark bytes start p = IsExponentMark (slice_index bytes start) × (p ≡ sign_end bytes (start + 1)) × IsDigitRun bytes p p

-- the parts of the number text that the bytes begin with: where each part ends
pub record IsScan (bytes : List ℕ) (start whole fraction end : ℕ) : Type 0 where
  pub first : start ≡ whole_start bytes
  pub digits : IsDigitRun bytes start whole
  pub some_digit : start < whole
  pub no_needless_zero : slice_index bytes start ≡ 48 → whole ≡ start + 1
  pub fraction_end : IsFractionEnd bytes whole fraction
  pub exponent_end : IsExponentEnd bytes fraction end

-- ---- digits

pub inside_of : (bytes : List ℕ) (k : ℕ) → 0 < slice_index bytes k → k < length bytes
inside_of [] zero h = absurd (omega (arith, h))
inside_of [] (suc k) h = absurd (omega (arith, h))
inside_of (b ∷ bytes) zero h = omega arith
inside_of (b ∷ bytes) (suc k) h = omega (arith, inside_of bytes k h)

digits_of : (bs : List ℕ) (n start : ℕ) → digits_length (drop start bs) ≡ n → start ≤ length bs → IsDigitRun bs start (start + n)
unfolding digits_length
digits_of bs n start count within = record {
  ordered = omega arith;
  within = omega (arith, count, run_within is_ascii_digit refl bs start within);
  digits = λ k low high. digit_is (slice_index bs k) (run_passes is_ascii_digit refl bs start k low (omega (arith, high, count)));
  ends = λ digit. true≢false (sym (is_digit (slice_index bs (start + n)) digit) ∙ ap (λ m. is_ascii_digit (slice_index bs (start + m))) (sym count) ∙ run_ends is_ascii_digit refl bs start);
}

pub digits_run : (bs : List ℕ) (start end : ℕ) → start ≤ length bs → end ≡ digits_from bs start → IsDigitRun bs start end
digits_run bs start end within at = subst (IsDigitRun bs start) (sym at) (digits_of bs (digits_length (drop start bs)) start refl within)

-- ---- the parts

pub fraction_is : (bs : List ℕ) (start end : ℕ) → start ≤ length bs → fraction_from bs start ≡ Ok end → IsFractionEnd bs start end
fraction_is bs start end within at =
    ⊎_elim
    (λ point. ⊎_elim
    (λ none. absurd (ok_no_err at (fraction_bare bs start (digits_from bs (start + 1)) point refl (omega (arith, none)))))
    (λ some.
    let same : end ≡ digits_from bs (start + 1) = ok_same at (fraction_some bs start (digits_from bs (start + 1)) point refl (omega (arith, some))) in
    inr (point, omega (arith, same, some), digits_run bs (start + 1) end (omega (arith, inside_of bs start (omega (arith, point)))) same))
    (by_digits (digits_length (drop (start + 1) bs))))
    (λ other. inl (ok_same at (no_fraction bs start other), other)) (cases_eq (slice_index bs start) 46)

pub fraction_fault_is : (bs : List ℕ) (start offset : ℕ) → start ≤ length bs → fraction_from bs start ≡ Err offset → IsBarePoint bs start
fraction_fault_is bs start offset within at =
    ⊎_elim
    (λ point. ⊎_elim
    (λ none. (point, digits_run bs (start + 1) (start + 1) (omega (arith, inside_of bs start (omega (arith, point)))) (omega (arith, none))))
    (λ some. absurd (ok_no_err (fraction_some bs start (digits_from bs (start + 1)) point refl (omega (arith, some))) at))
    (by_digits (digits_length (drop (start + 1) bs))))
    (λ other. absurd (ok_no_err (no_fraction bs start other) at)) (cases_eq (slice_index bs start) 46)

mark_inside : (bs : List ℕ) (start : ℕ) → IsExponentMark (slice_index bs start) → start < length bs
mark_inside bs start mark = inside_of bs start (⊎_elim (λ e. omega (arith, e)) (λ e. omega (arith, e)) mark)

pub sign_end_within : (bs : List ℕ) (start : ℕ) → start ≤ length bs → sign_end bs start ≤ length bs
sign_end_within bs start within =
    ⊎_elim (λ sign. rw sign (omega (arith, inside_of bs start (signed (slice_index bs start) sign)))) (λ no_sign. rw no_sign within) (cases_Bool (slice_index bs start == 43 || slice_index bs start == 45))
  where
    signed : (b : ℕ) → (b == 43 || b == 45) ≡ true → 0 < b
    signed zero h = absurd (cc)
    signed (suc b) h = omega arith

pub exponent_is : (bs : List ℕ) (start end : ℕ) → start ≤ length bs → exponent_from bs start ≡ Ok end → IsExponentEnd bs start end
exponent_is bs start end within at =
    ⊎_elim
    (λ mark. ⊎_elim
    (λ none. absurd (ok_no_err at (exponent_bare bs start (sign_end bs (start + 1)) (digits_from bs (sign_end bs (start + 1))) mark refl refl (omega (arith, none)))))
    (λ some.
    let same : end ≡ digits_from bs (sign_end bs (start + 1)) = ok_same at (exponent_some bs start (sign_end bs (start + 1)) (digits_from bs (sign_end bs (start + 1))) mark refl refl (omega (arith, some))) in
    inr (mark, omega (arith, same, some), digits_run bs (sign_end bs (start + 1)) end (sign_end_within bs (start + 1) (omega (arith, mark_inside bs start mark))) same))
    (by_digits (digits_length (drop (sign_end bs (start + 1)) bs))))
    (λ other. inl (ok_same at (no_exponent bs start other), other)) (mark_or_not (slice_index bs start))

pub exponent_fault_is : (bs : List ℕ) (start offset : ℕ) → start ≤ length bs → exponent_from bs start ≡ Err offset → IsBareMark bs start (sign_end bs (start + 1))
exponent_fault_is bs start offset within at =
    ⊎_elim
    (λ mark. ⊎_elim
    (λ none. (mark, refl, digits_run bs (sign_end bs (start + 1)) (sign_end bs (start + 1)) (sign_end_within bs (start + 1) (omega (arith, mark_inside bs start mark))) (omega (arith, none))))
    (λ some. absurd (ok_no_err (exponent_some bs start (sign_end bs (start + 1)) (digits_from bs (sign_end bs (start + 1))) mark refl refl (omega (arith, some))) at))
    (by_digits (digits_length (drop (sign_end bs (start + 1)) bs))))
    (λ other. absurd (ok_no_err (no_exponent bs start other) at)) (mark_or_not (slice_index bs start))

-- The results of integer arithmetic.
use Rattle.std.proofs.Common.{◌≡◌, ◌≢◌, ◌⊎◌, ℕ, ◌<◌, zero, suc, true, ◌%◌, List, Some, Result, refl, sym, ◌∙◌, arith, inl, inr, ℤ, pos, negsuc, neg_ℤ, ◌-ℤ◌}
use Rattle.std.specs.Prelude.{unsigned_abs, int_div, int_rem, FitsSigned}
use Rattle.std.specs.Int.{is_negative, w128, cast_signed, cast_unsigned}
use Rattle.std.proofs.lemmas.Int.{quot-rem, rem_below, to_z-of_z}
use Rattle.std.specs.Int.Signed.{mag_rem}
use Rattle.jsonb_core.specs.declared.number.Number.{Number}
use Rattle.jsonb_core.specs.declared.error.Error.{Error}
use Rattle.jsonb_core.specs.declared.number.arithmetic.Kind.{Kind}
use Rattle.jsonb_core.proofs.Numbers.Pointed.{is_negative-pos}
use Rattle.jsonb_core.specs.Number.Arithmetic.{whole_of}
use Rattle.jsonb_core.specs.Number.Arithmetic.{common_kind, difference_overflow, AnswersInt64, IsDifference}
use Rattle.jsonb_spec.specs.Number.Remainder.{IsRemainder}

pub IsDifference-from : (x y : Number) (k : Kind) (left right : ℤ) (overflow : List ℕ) (r : Result Number Error) → common_kind x y ≡ Some k → left ≡ whole_of x → right ≡ whole_of y → overflow ≡ difference_overflow x y → AnswersInt64 overflow (left -ℤ right) r → IsDifference x y r
IsDifference-from x y k left right overflow r kind l m text answer =
    rw kind (rw (← text, ← l, ← m) answer)

negative_or_zero : (n : ℕ) → (neg_ℤ (pos n) ≡ pos 0) ⊎ (is_negative (neg_ℤ (pos n)) ≡ true)
negative_or_zero zero = inl refl
negative_or_zero (suc n) = inr refl

nonzero_abs : (b : ℤ) → b ≢ pos 0 → 0 < unsigned_abs b
nonzero_abs (pos zero) some = absurd (some refl)
nonzero_abs (pos (suc n)) some = omega arith
nonzero_abs (negsuc n) some = omega arith

remainder_sign : (a b : ℤ) → (int_rem a b ≡ pos 0) ⊎ (is_negative (int_rem a b) ≡ is_negative a)
remainder_sign (pos a) b = inr (is_negative-pos (a % unsigned_abs b) ∙ sym (is_negative-pos a))
remainder_sign (negsuc a) b = negative_or_zero (suc a % unsigned_abs b)

pub int_rem_is : (a b : ℤ) → b ≢ pos 0 → IsRemainder a b (int_rem a b)
int_rem_is a b some = record {
  quotient = int_div a b;
  whole = sym (quot-rem a b);
  less = rem_below a b (nonzero_abs b some);
  sign = remainder_sign a b;
}

pub int_rem_fits : (a b : ℤ) → FitsSigned w128 a → FitsSigned w128 (int_rem a b)
int_rem_fits a b fits = record { sfits = omega (arith, mag_rem a b, fits.sfits) }

-- what `a % b` computes
pub int_rem_passed : (a b : ℤ) → FitsSigned w128 a → FitsSigned w128 b → cast_signed w128 (cast_unsigned w128 (int_rem (cast_signed w128 (cast_unsigned w128 a)) (cast_signed w128 (cast_unsigned w128 b)))) ≡ int_rem a b
int_rem_passed a b left right =
    rw (to_z-of_z w128 a left) (rw (to_z-of_z w128 b right) (to_z-of_z w128 (int_rem a b) (int_rem_fits a b left)))

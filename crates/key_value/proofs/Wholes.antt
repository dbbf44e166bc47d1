-- Digits with an exponent are the number that they were made of, and whether that is whole.
use Rattle.std.proofs.Common.{◌≡◌, ◌≢◌, ℕ, zero, suc, ◌+◌, ◌-◌, ◌*◌, ◌%◌, ◌^◌, ◌<◌, ◌≤◌, inl, inr, Bool, true, false, Equal, ℤ, pos, negsuc, unsigned_abs, refl, sym, ap, ◌∙◌, arith}
use Rattle.std.specs.Prelude.{◌*ℤ◌}
use Rattle.std.proofs.Math.Nat.{mul-le-mul_left, mul-le-mul_right}
use Rattle.std.proofs.lemmas.Bool.{cases_lt}
use Rattle.std.proofs.lemmas.Int.{ints, unsigned_abs-mul}
use Rattle.std.proofs.lemmas.Nat.{pow-add}
use Rattle.std.specs.Int.{is_negative}
use Rattle.std.specs.Cmp.{int_cmp_is}
use borrow.Author.Differences.{product_is}
use Rattle.jsonb_core.proofs.Numbers.Pointed.{is_negative-pos}
use Rattle.std.specs.Ordering.{int_cmp}
use Rattle.jsonb_spec.specs.Number.Cast.{HasValue}
use Rattle.jsonb_spec.specs.Number.Signed.{signed_by}
use Rattle.jsonb_spec.specs.Order.{decimal_cmp, num_cmp}
use Rattle.jsonb_spec.specs.Proper.{FitsWhole, IsProperNumber}
use Rattle.jsonb_spec.specs.Tree.{Form, int64, uint64, decimal64, decimal128, Num}
use Rattle.jsonb_core.proofs.SortKeys.Digits.{ten}
use Rattle.jsonb_spec.specs.SortKey.Reading.{IsDigits, IsPointed}
use Rattle.key_value.proofs.Numbers.{cancel}

-- ---- how large a number is

whole_most : (form : Form) (whole : ℤ) → FitsWhole form whole → unsigned_abs whole ≤ 2 ^ 127
whole_most int64 whole h = omega (arith, ints)
whole_most uint64 (pos n) h = omega arith
whole_most uint64 (negsuc n) h = absurd h
whole_most decimal64 whole h = omega (arith, ints)
whole_most decimal128 whole h = omega (arith, ints)

pub most : (n : Num) → IsProperNumber n → unsigned_abs n.whole ≤ 2 ^ 127
most n p = whole_most n.form n.whole p.1

-- ---- the digits and the exponent

-- These are the digits of n, without its sign, and the first of them is at this exponent.
pub record HasParts (n : Num) (exponent digits read : ℕ) : Type 0 where
  pub count : ℕ
  pub is_digits : IsDigits count (unsigned_abs n.whole) digits read
  pub is_exponent_key : exponent + n.scale ≡ count + 255

module _ (n : Num) (exponent digits read : ℕ) (parts : HasParts n exponent digits read) where
  exact : digits * 10 ^ (parts.count - read) ≡ unsigned_abs n.whole
  exact =
      let k = parts.count - read in
      let whole : k + read ≡ parts.count = omega (arith, parts.is_digits.fewer) in
      let power : 10 ^ parts.count ≡ 10 ^ k * 10 ^ read = ap (λ i. 10 ^ i) (sym whole) ∙ pow-add 10 k read in
      cancel (digits * 10 ^ k) (unsigned_abs n.whole) (10 ^ read) (ten read) (omega (arith, ap (λ x. digits * x) power, parts.is_digits.whole))

  -- with zeros behind them they are the whole number
  with_zeros : (zeros : ℕ) → zeros ≡ exponent - (255 + read) → 255 + read ≤ exponent → digits * 10 ^ zeros * 10 ^ n.scale ≡ unsigned_abs n.whole
  with_zeros zeros e h =
      let sum : zeros + n.scale ≡ parts.count - read = omega (arith, parts.is_exponent_key, e, h) in
      let power : 10 ^ zeros * 10 ^ n.scale ≡ 10 ^ (parts.count - read) = sym (pow-add 10 zeros n.scale) ∙ ap (λ i. 10 ^ i) sum in
      omega (arith, ap (λ x. digits * x) power, exact)

  pub zeros_most : (zeros : ℕ) → zeros ≡ exponent - (255 + read) → 255 + read ≤ exponent → digits * 10 ^ zeros ≤ unsigned_abs n.whole
  zeros_most zeros e h =
      let all = digits * 10 ^ zeros in
      let more : all * 1 ≤ all * 10 ^ n.scale = mul-le-mul_left all (omega (arith, ten n.scale)) in
      omega (arith, with_zeros zeros e h, more)

  pub power_most : (zeros : ℕ) → zeros ≡ exponent - (255 + read) → 255 + read ≤ exponent → 10 ^ zeros ≤ unsigned_abs n.whole
  power_most zeros e h =
      let more : 1 * 10 ^ zeros ≤ digits * 10 ^ zeros = mul-le-mul_right (10 ^ zeros) (omega (arith, parts.is_digits.some)) in
      omega (arith, zeros_most zeros e h, more)

  pub magnitude_is : (zeros power magnitude : ℕ) → zeros ≡ exponent - (255 + read) → 255 + read ≤ exponent → power ≡ 10 ^ zeros → magnitude ≡ digits * power → magnitude * 10 ^ n.scale ≡ unsigned_abs n.whole
  magnitude_is zeros power magnitude e h is_power is_magnitude = ap (λ m. m * 10 ^ n.scale) (is_magnitude ∙ ap (λ p. digits * p) is_power) ∙ with_zeros zeros e h

  -- with the last of them behind the point they are no whole number
  pub not_whole : exponent < 255 + read → digits % 10 ≢ 0 → (v : ℤ) → HasValue n v → ⊥
  not_whole h last v has =
      let s = 255 + read - exponent in
      let k = parts.count - read in
      let m = unsigned_abs v in
      let sum : n.scale ≡ k + s = omega (arith, parts.is_exponent_key, parts.is_digits.fewer, h) in
      let power : 10 ^ n.scale ≡ 10 ^ k * 10 ^ s = ap (λ i. 10 ^ i) sum ∙ pow-add 10 k s in
      let whole : unsigned_abs n.whole ≡ m * 10 ^ n.scale = ap unsigned_abs has ∙ unsigned_abs-mul v (pos (10 ^ n.scale)) in
      let same : digits ≡ m * 10 ^ s = cancel digits (m * 10 ^ s) (10 ^ k) (ten k) (omega (arith, exact, whole, ap (λ p. m * p) power)) in
      let before : s ≡ (s - 1) + 1 = omega (arith, h) in
      let tenfold : 10 ^ s ≡ 10 ^ (s - 1) * 10 = ap (λ i. 10 ^ i) before ∙ pow-add 10 (s - 1) 1 in
      last (omega (arith, same, ap (λ p. m * p) tenfold))

  -- with the point among them or behind zeros they are the number
  pub with_point : (whole scale : ℕ) → IsPointed digits read exponent whole scale → unsigned_abs n.whole * 10 ^ scale ≡ whole * 10 ^ n.scale
  with_point whole scale p = elim (cases_lt exponent (255 + read)) [
    | inl below ↦ (
        let is = p.behind below in
        let k = parts.count - read in
        let s = 255 + read - exponent in
        let sum : n.scale ≡ k + s = omega (arith, parts.is_exponent_key, parts.is_digits.fewer, below) in
        let power : 10 ^ n.scale ≡ 10 ^ k * 10 ^ s = ap (λ i. 10 ^ i) sum ∙ pow-add 10 k s in
        omega (arith, ap (λ x. x * 10 ^ s) exact, ap (λ i. unsigned_abs n.whole * 10 ^ i) is.1, ap (λ x. x * 10 ^ n.scale) is.0, ap (λ x. digits * x) power)
        )
    | inr most ↦ (
        let is = p.before most in
        let one : 10 ^ scale ≡ 1 = ap (λ i. 10 ^ i) is.1 in
        omega (arith, with_zeros (exponent - (255 + read)) refl most, ap (λ x. x * 10 ^ n.scale) is.0, ap (λ x. unsigned_abs n.whole * x) one)
        )
  ]

-- ---- signs

equal_ints : (a b : ℤ) → a ≡ b → int_cmp a b ≡ Equal
equal_ints a b e = sym (int_cmp_is a b Equal e)

same_by_sign : (b : Bool) (p q T S : ℕ) → p * T ≡ q * S → int_cmp (signed_by b p *ℤ pos T) (signed_by b q *ℤ pos S) ≡ Equal
same_by_sign false p q T S e = equal_ints (pos p *ℤ pos T) (pos q *ℤ pos S) (omega (arith, ints, e, product_is (pos p) (pos T), product_is (pos q) (pos S)))
same_by_sign true zero zero T S e = equal_ints (pos 0 *ℤ pos T) (pos 0 *ℤ pos S) (omega (arith, ints, product_is (pos 0) (pos T), product_is (pos 0) (pos S)))
same_by_sign true zero (suc q) T S e = equal_ints (pos 0 *ℤ pos T) (negsuc q *ℤ pos S) (omega (arith, ints, e, product_is (pos 0) (pos T), product_is (negsuc q) (pos S)))
same_by_sign true (suc p) zero T S e = equal_ints (negsuc p *ℤ pos T) (pos 0 *ℤ pos S) (omega (arith, ints, e, product_is (negsuc p) (pos T), product_is (pos 0) (pos S)))
same_by_sign true (suc p) (suc q) T S e = equal_ints (negsuc p *ℤ pos T) (negsuc q *ℤ pos S) (omega (arith, ints, e, product_is (negsuc p) (pos T), product_is (negsuc q) (pos S)))

signed_is : (z : ℤ) (b : Bool) → is_negative z ≡ b → z ≡ signed_by b (unsigned_abs z)
signed_is (pos k) false e = refl
signed_is (pos k) true e = let clash : false ≡ true = sym (is_negative-pos k) ∙ e in cc
signed_is (negsuc k) false e = let clash : true ≡ false = e in cc
signed_is (negsuc k) true e = refl

-- a number of this sign, scale and magnitude is n
pub same_number : (x n : Num) (b : Bool) (scale magnitude : ℕ) → x.scale ≡ scale → x.whole ≡ signed_by b magnitude → is_negative n.whole ≡ b → magnitude * 10 ^ n.scale ≡ unsigned_abs n.whole * 10 ^ scale → num_cmp x n ≡ Equal
same_number x n b scale magnitude scales wholes sign e =
    (λ i. decimal_cmp (wholes i) (scales i) (signed_is n.whole b sign i) n.scale) ∙ same_by_sign b magnitude (unsigned_abs n.whole) (10 ^ n.scale) (10 ^ scale) e

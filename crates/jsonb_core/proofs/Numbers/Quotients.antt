-- Quotients by powers of ten.
use Rattle.std.proofs.Common.{◌≡◌, ◌↔◌, ℕ, ◌+◌, ◌-◌, ◌*◌, ◌/◌, ◌%◌, ◌^◌, ◌<◌, ◌≤◌, Some, ap, arith, ⊎_elim}
use Rattle.std.proofs.lemmas.Bool.{cases_lt}
use Rattle.std.proofs.lemmas.Nat.{div-add-mod', mod_below}
use Rattle.std.proofs.Math.Nat.{one-le-pow, pow-le-pow_right, mul-div_cancel}
use Rattle.std.specs.Int.{from_bool}
use Rattle.std.specs.Prelude.{nat_le}
use Rattle.std.proofs.lemmas.Bool.Decides.{nat_tests}
use Rattle.jsonb_spec.specs.Number.Cast.{IsRounded}

pub ten_positive : (scale : ℕ) → 0 < 10 ^ scale
ten_positive scale = omega (arith, one-le-pow scale 10 (omega arith))

-- a power of ten past 128 bits is at least the 39th
pub ten_past_128_bits : (scale : ℕ) → 39 ≤ scale → 10 ^ 39 ≤ 10 ^ scale
ten_past_128_bits scale large = pow-le-pow_right {n = 10} (omega arith) {i = 39} {j = scale} large

pub some_quotient : (m p scale : ℕ) → p ≡ 10 ^ scale → m % p ≡ 0 → (k : ℕ) → (Some (m / p) ≡ Some k) ↔ (m ≡ k * 10 ^ scale)
some_quotient m p scale e whole k =
    let positive : 0 < p = rw e (ten_positive scale) in
    let split : m / p * p + m % p ≡ m = div-add-mod' m p in (
      λ same. let q : m / p ≡ k = cc in rw (← e, ← q) (omega arith),
      λ exact. let q : k * p / p ≡ k = mul-div_cancel k positive in let again : m ≡ k * p = rw e exact in ap Some (rw again q),
    )

pub rounded_down : (m p scale : ℕ) → p ≡ 10 ^ scale → 2 * (m % p) < p → IsRounded scale m (m / p)
rounded_down m p scale e under =
    let split : m / p * p + m % p ≡ m = div-add-mod' m p in
    let product : m / p * p ≡ m / p * 10 ^ scale = ap (λ x. m / p * x) e in
    record { low = omega arith; high = omega arith }

pub rounded_up : (m p scale : ℕ) → p ≡ 10 ^ scale → p ≤ 2 * (m % p) → IsRounded scale m (m / p + 1)
rounded_up m p scale e over =
    let split : m / p * p + m % p ≡ m = div-add-mod' m p in
    let below : m % p < p = mod_below m p (rw e (ten_positive scale)) in
    let product : m / p * p ≡ m / p * 10 ^ scale = ap (λ x. m / p * x) e in
    record { low = omega arith; high = omega arith }

pub rounded_by : (m p scale b : ℕ) → p ≡ 10 ^ scale → m % p < p → b ≡ from_bool (nat_le (p - m % p) (m % p)) → IsRounded scale m (m / p + b)
rounded_by m p scale b e below tested =
    ⊎_elim (λ under. let none : b ≡ 0 = grind (arith, nat_tests) in let same : m / p + b ≡ m / p = omega arith in rw same (rounded_down m p scale e under))
    (λ over. let one : b ≡ 1 = grind (arith, nat_tests) in rw one (rounded_up m p scale e over)) (cases_lt (2 * (m % p)) p)

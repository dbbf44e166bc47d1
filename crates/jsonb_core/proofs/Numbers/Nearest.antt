-- The nearest multiple of an integer.
use Rattle.std.proofs.Common.{◌≡◌, ◌↔◌, ℕ, ◌+◌, ◌-◌, ◌*◌, ◌^◌, ◌<◌, ◌≤◌, zero, suc, Some, refl, sym, subst, ap, ◌∙◌, arith, Bool, true, false, ℤ, pos, negsuc, ◌*ℤ◌, ◌-ℤ◌, ◌+ℤ◌, ◌≤ℤ◌, ◌<ℤ◌}
use Rattle.std.specs.Prelude.{unsigned_abs}
use Rattle.std.specs.Int.{is_negative}
use Rattle.std.proofs.lemmas.Int.{ints, by_lt_z}
use Rattle.std.proofs.Math.Nat.{mul-le-mul_right, zero-mul, suc-mul, le-mul_of_pos_right}
use Rattle.jsonb_spec.specs.Number.Cast.{IsExactly, IsNearest, IsRounded}
use Rattle.jsonb_spec.specs.Number.Signed.{signed_by}
use Rattle.jsonb_core.proofs.Numbers.Pointed.{is_negative-pos}
use Rattle.jsonb_core.proofs.Numbers.Quotients.{ten_positive}

pub signed_parts : (z : ℤ) → signed_by (is_negative z) (unsigned_abs z) ≡ z
signed_parts (pos n) = ap (λ b. signed_by b n) (is_negative-pos n)
signed_parts (negsuc n) = refl

-- a multiple has the multiple magnitude
pub signed_multiple : (b : Bool) (k p : ℕ) → signed_by b k *ℤ pos p ≡ signed_by b (k * p)
signed_multiple false k p = refl
signed_multiple true zero p = rw zero-mul refl
signed_multiple true (suc k) p = refl

-- how far two numbers of one sign are apart
pub apart : (b : Bool) (m x : ℕ) → unsigned_abs (signed_by b m -ℤ signed_by b x) ≡ (m - x) + (x - m)
apart false m x = omega (arith, ints)
apart true m x = omega (arith, ints)

pub unsigned_abs-signed : (b : Bool) (m : ℕ) → unsigned_abs (signed_by b m) ≡ m
unsigned_abs-signed false m = refl
unsigned_abs-signed true zero = refl
unsigned_abs-signed true (suc m) = refl

-- a greater factor gives a product that is greater by one divisor or more
pub multiple_rises : (n l : ℤ) (p : ℕ) → n <ℤ l → (n *ℤ pos p +ℤ pos p) ≤ℤ (l *ℤ pos p)
multiple_rises (pos n) (pos l) p h =
    let over : n + 1 ≤ l = omega (arith, ints) in
    omega (arith, ints, mul-le-mul_right p over)
multiple_rises (pos n) (negsuc l) p h = absurd (omega (arith, ints, h))
multiple_rises (negsuc n) (pos l) p h = omega (arith, ints, suc-mul n p)
multiple_rises (negsuc n) (negsuc l) p h =
    let over : suc l + 1 ≤ suc n = omega (arith, ints) in
    omega (arith, ints, mul-le-mul_right p over, suc-mul n p, suc-mul l p)

-- the sign of a multiple is that of its factor
pub multiple_negative : (n : ℤ) (p : ℕ) → n <ℤ pos 0 → (n *ℤ pos p +ℤ pos p) ≤ℤ pos 0
multiple_negative n p h = let e : pos 0 *ℤ pos p ≡ pos 0 = rw zero-mul refl in rw e at (multiple_rises n (pos 0) p h)

pub multiple_positive : (n : ℤ) (p : ℕ) → pos 0 ≤ℤ n → pos 0 ≤ℤ (n *ℤ pos p)
multiple_positive (pos n) p h = omega (arith, ints)
multiple_positive (negsuc n) p h = absurd (omega (arith, ints, h))

-- a multiple has one factor
pub multiple_injective : (n l : ℤ) (p : ℕ) → 0 < p → n *ℤ pos p ≡ l *ℤ pos p → n ≡ l
multiple_injective n l p some same =
    by_lt_z n l (λ less. absurd (omega (arith, ints, multiple_rises n l p less, same)))
    (λ least. by_lt_z l n (λ less. absurd (omega (arith, ints, multiple_rises l n p less, same))) (λ most. omega (arith, ints)))

-- a quotient is no greater than what is divided
pub exact_le : (m k scale : ℕ) → m ≡ k * 10 ^ scale → k ≤ m
exact_le m k scale exact = omega (arith, le-mul_of_pos_right k (ten_positive scale))

pub nearest_parts : (whole : ℤ) (k scale : ℕ) → IsRounded scale (unsigned_abs whole) k → IsNearest scale whole (signed_by (is_negative whole) k)
nearest_parts whole k scale rounded =
    let b = is_negative whole in
    let m = unsigned_abs whole in
    let x = k * 10 ^ scale in
    let distance : unsigned_abs (whole -ℤ signed_by (is_negative whole) k *ℤ pos (10 ^ scale)) ≡ (m - x) + (x - m) =
    rw signed_multiple (ap (λ z. unsigned_abs (z -ℤ signed_by (is_negative whole) (k * 10 ^ scale))) (sym (signed_parts whole)) ∙ apart (is_negative whole) (unsigned_abs whole) (k * 10 ^ scale)) in
    record {
      near = omega (arith, rounded.low, rounded.high, distance);
      away_from_zero = λ half. rw (signed_multiple, unsigned_abs-signed) (omega (arith, rounded.low, rounded.high, distance, half));
    }

-- of two nearest numbers neither is less
pub nearest_least : (whole n l : ℤ) (scale : ℕ) → IsNearest scale whole n → IsNearest scale whole l → n <ℤ l → ⊥
nearest_least whole n l scale first second less =
    let rises = multiple_rises n l (10 ^ scale) less in
    let low : 2 * unsigned_abs (whole -ℤ n *ℤ pos (10 ^ scale)) ≡ 10 ^ scale = omega (arith, ints, rises, first.near, second.near) in
    let high : 2 * unsigned_abs (whole -ℤ l *ℤ pos (10 ^ scale)) ≡ 10 ^ scale = omega (arith, ints, rises, first.near, second.near) in
    by_lt_z n (pos 0)
    (λ negative. omega (arith, ints, rises, low, high, first.away_from_zero low, second.away_from_zero high, multiple_negative n (10 ^ scale) negative))
    (λ positive. omega (arith, ints, rises, low, high, first.away_from_zero low, second.away_from_zero high, multiple_positive n (10 ^ scale) positive))

pub nearest_unique : (whole n l : ℤ) (scale : ℕ) → IsNearest scale whole n → IsNearest scale whole l → n ≡ l
nearest_unique whole n l scale first second =
    by_lt_z n l (λ less. absurd (nearest_least whole n l scale first second less))
    (λ least. by_lt_z l n (λ less. absurd (nearest_least whole l n scale second first less)) (λ most. omega (arith, ints)))

pub nearest_some : (whole : ℤ) (k scale : ℕ) → IsRounded scale (unsigned_abs whole) k → (n : ℤ) → (Some (signed_by (is_negative whole) k) ≡ Some n) ↔ IsNearest scale whole n
nearest_some whole k scale rounded n =
    let parts = nearest_parts whole k scale rounded in (
      λ same. let factor : signed_by (is_negative whole) k ≡ n = cc in subst (IsNearest scale whole) factor parts,
      λ other. ap Some (nearest_unique whole (signed_by (is_negative whole) k) n scale parts other),
    )

-- the same of what calls answered
pub nearest_answer : (whole r : ℤ) (b : Bool) (m k scale s : ℕ) → b ≡ is_negative whole → m ≡ unsigned_abs whole → s ≡ scale → IsRounded s m k → r ≡ signed_by b k → (n : ℤ) → (Some r ≡ Some n) ↔ IsNearest scale whole n
nearest_answer whole r b m k scale s sign magnitude same rounded answer =
    rw (answer, sign) (nearest_some whole k scale (rw (← same, ← magnitude) rounded))

-- an exact whole number is the nearest one
pub exact_is_nearest : (scale : ℕ) (whole n : ℤ) → IsExactly scale whole n → IsNearest scale whole n
exact_is_nearest scale whole n exact =
    let none : unsigned_abs (whole -ℤ n *ℤ pos (10 ^ scale)) ≡ 0 = omega (arith, ints, exact) in
    record { near = omega (arith, none); away_from_zero = λ half. absurd (omega (arith, none, half, ten_positive scale)) }

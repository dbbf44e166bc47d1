-- How many digits a number has, and where the first is.
use Rattle.std.proofs.Common.{◌≡◌, ℕ, zero, suc, ◌+◌, ◌-◌, ◌*◌, ◌^◌, ◌<◌, ◌≤◌, inl, inr, Bool, List, [], ◌∷◌, map, refl, sym, subst, ap, ◌∙◌, arith}
use Rattle.std.proofs.Math.Nat.{mul-lt-mul_of_pos_right, mul-le-mul_right, pow-suc, pow-zero, pow-le-pow_right}
use Rattle.std.proofs.lemmas.Bool.{cond-true, cond-false, cases_lt, lt-ltb, le-ltb}
use Rattle.std.proofs.lemmas.Nat.{pow-add}
use Rattle.std.specs.Bool.{nat_lt}
use Rattle.std.specs.Ordering.{nat_cmp, ordering_then, MatchOrdering}
use Rattle.std.specs.declared.cmp.Ordering.{Ordering}
use Rattle.std.specs.declared.cmp.Ordering.TheVariants.{Less, Equal, Greater}
use Rattle.jsonb_spec.specs.SortKey.{digits_within, digit_count, exponent_key, invert_if}
use Rattle.jsonb_core.proofs.SortKeys.Comparing.{Compares, same_bytes, is_less, is_greater, ranks, nat_cmp-scaled}
use Rattle.jsonb_core.proofs.SortKeys.Digits.{signed_order, signed_equal, turned_below, turned_above, turned_same, ten}

pub power_le : (i j : ℕ) → i ≤ j → 10 ^ i ≤ 10 ^ j
power_le i j h = pow-le-pow_right (omega arith) h

pub record HasDigits (m count : ℕ) : Type 0 where
  pub below : m < 10 ^ count
  pub least : 10 ^ count ≤ m * 10
  pub some : 0 < count

fewer : (most m : ℕ) → m < 10 ^ most → digits_within (suc most) m ≡ digits_within most m
unfolding digits_within
fewer most m l = cond-true (nat_lt m (10 ^ most)) _ _ (lt-ltb m (10 ^ most) l)

exactly : (most m : ℕ) → 10 ^ most ≤ m → digits_within (suc most) m ≡ suc most
unfolding digits_within
exactly most m l = cond-false (nat_lt m (10 ^ most)) _ _ (le-ltb m (10 ^ most) l)

within : (most m : ℕ) → 0 < m → m < 10 ^ most → HasDigits m (digits_within most m)
within zero m o h = absurd (omega (arith, pow-zero 10))
within (suc most) m o h =
    elim (cases_lt m (10 ^ most)) [
      | inl l ↦ subst (HasDigits m) (sym (fewer most m l)) (within most m o l)
      | inr l ↦ subst (HasDigits m) (sym (exactly most m l)) (record { below = h; least = omega (arith, pow-suc 10 most); some = omega arith })
    ]

within-le : (most m : ℕ) → digits_within most m ≤ most
unfolding digits_within
within-le zero m = omega arith
within-le (suc most) m =
    elim (cases_lt m (10 ^ most)) [
      | inl l ↦ omega (arith, fewer most m l, within-le most m)
      | inr l ↦ omega (arith, exactly most m l)
    ]

pub digits_counted : (m : ℕ) → 0 < m → m < 10 ^ 39 → HasDigits m (digit_count m)
unfolding digit_count
digits_counted m o h = within 39 m o h

pub digit_count-le : (m : ℕ) → digit_count m ≤ 39
unfolding digit_count
digit_count-le m = within-le 39 m

no_fewer : (m a b : ℕ) → HasDigits m a → HasDigits m b → b ≤ a
no_fewer m a b p q =
    elim (cases_lt a b) [
      | inl l ↦
          let up : 10 ^ (a + 1) ≤ 10 ^ b = power_le (a + 1) b (omega arith) in
          absurd (omega (arith, up, p.below, q.least, pow-add 10 a 1))
      | inr l ↦ l
    ]

-- a number has one count of digits
pub digit_count-is : (m k : ℕ) → 10 ^ k ≤ m → m < 10 * 10 ^ k → k < 39 → digit_count m ≡ k + 1
digit_count-is m k p q small =
    let up : 10 ^ (k + 1) ≤ 10 ^ 39 = power_le (k + 1) 39 (omega arith) in
    let counted = digits_counted m (omega (arith, ten k)) (omega (arith, up, pow-add 10 k 1)) in
    let here : HasDigits m (k + 1) = record { below = omega (arith, pow-add 10 k 1); least = omega (arith, pow-add 10 k 1); some = omega arith } in
    let one = no_fewer m (digit_count m) (k + 1) counted here in
    let other = no_fewer m (k + 1) (digit_count m) here counted in
    omega arith

-- ---- the exponent of the first digit

pub near : (x : ℕ) → x < 225 → exponent_key x ≡ 129 ∷ x ∷ []
unfolding exponent_key
near x l = cond-true (nat_lt x 225) _ _ (lt-ltb x 225 l)

pub far : (x : ℕ) → 225 ≤ x → exponent_key x ≡ (x - 95) ∷ []
unfolding exponent_key
far x l = cond-false (nat_lt x 225) _ _ (le-ltb x 225 l)

abbrev IndexesCompare : Bool → ℕ → ℕ → Ordering → Type 0
IndexesCompare negative x y r =
    Compares (map (invert_if negative) (exponent_key x)) (map (invert_if negative) (exponent_key y)) (signed_order negative r)

indexes_below : (negative : Bool) (x y : ℕ) → x < y → y < 351 → IndexesCompare negative x y Less
indexes_below negative x y l small =
    elim (cases_lt y 225) [
      | inl k ↦
          rw (near x (omega arith), near y k)
          (turned_same negative 129 129 _ _ _ refl (turned_below negative x y [] [] l (omega arith)))
      | inr k ↦
          elim (cases_lt x 225) [
            | inl j ↦ rw (near x j, far y k) (turned_below negative 129 (y - 95) _ [] (omega arith) (omega arith))
            | inr j ↦ rw (far x j, far y k) (turned_below negative (x - 95) (y - 95) [] [] (omega arith) (omega arith))
          ]
    ]

indexes_above : (negative : Bool) (x y : ℕ) → y < x → x < 351 → IndexesCompare negative x y Greater
indexes_above negative x y l small =
    elim (cases_lt x 225) [
      | inl k ↦
          rw (near x k, near y (omega arith))
          (turned_same negative 129 129 _ _ _ refl (turned_above negative x y [] [] l (omega arith)))
      | inr k ↦
          elim (cases_lt y 225) [
            | inl j ↦ rw (far x k, near y j) (turned_above negative (x - 95) 129 [] _ (omega arith) (omega arith))
            | inr j ↦ rw (far x k, far y j) (turned_above negative (x - 95) (y - 95) [] [] (omega arith) (omega arith))
          ]
    ]

indexes_same : (negative : Bool) (x y : ℕ) → x ≡ y → IndexesCompare negative x y Equal
indexes_same negative x y e =
    rw (e, signed_equal negative) (same_bytes (map (invert_if negative) (exponent_key y)))

indexes_by : (negative : Bool) (x y : ℕ) → x < 351 → y < 351 → (r : Ordering) → MatchOrdering r (x < y) (x ≡ y) (y < x) → IndexesCompare negative x y r
indexes_by negative x y p q Less l = indexes_below negative x y l q
indexes_by negative x y p q Equal l = indexes_same negative x y l
indexes_by negative x y p q Greater l = indexes_above negative x y l p

pub indexes_compare : (negative : Bool) (x y : ℕ) → x < 351 → y < 351 → IndexesCompare negative x y (nat_cmp x y)
indexes_compare negative x y p q = indexes_by negative x y p q (nat_cmp x y) (ranks x y)

-- the first byte of an exponent
pub record Located (x : ℕ) : Type 0 where
  pub head : ℕ
  pub tail : List ℕ
  pub is : exponent_key x ≡ head ∷ tail
  pub low : 128 < head
  pub high : head < 200

pub located : (x : ℕ) → x < 295 → Located x
located x small =
    elim (cases_lt x 225) [
      | inl l ↦ record { head = 129; tail = x ∷ []; is = near x l; low = omega arith; high = omega arith }
      | inr l ↦ record { head = x - 95; tail = []; is = far x l; low = omega arith; high = omega arith }
    ]

-- ---- numbers by the exponents of their first digits, and where these are the same by their digits

farther : (a b m n s t : ℕ) → HasDigits m a → HasDigits n b → a + t < b + s → m * 10 ^ t < n * 10 ^ s
farther a b m n s t p q l =
    let up : 10 ^ (a + t + 1) ≤ 10 ^ (b + s) = power_le (a + t + 1) (b + s) (omega arith) in
    let below : m * 10 ^ t < 10 ^ a * 10 ^ t = mul-lt-mul_of_pos_right p.below (ten t) in
    let least : 10 ^ b * 10 ^ s ≤ n * 10 * 10 ^ s = mul-le-mul_right (10 ^ s) q.least in
    omega (arith, up, below, least, pow-add 10 (a + t) 1, pow-add 10 a t, pow-add 10 b s)

as_far : (a b m n s t : ℕ) → a + t ≡ b + s → nat_cmp (m * 10 ^ b) (n * 10 ^ a) ≡ nat_cmp (m * 10 ^ t) (n * 10 ^ s)
as_far a b m n s t e =
    let one : 10 ^ a * 10 ^ t ≡ 10 ^ b * 10 ^ s = sym (pow-add 10 a t) ∙ ap (λ k. 10 ^ k) e ∙ pow-add 10 b s in
    let left : m * 10 ^ b * 10 ^ t ≡ m * 10 ^ t * 10 ^ b = omega arith in
    let right : n * 10 ^ a * 10 ^ t ≡ n * 10 ^ s * 10 ^ b = omega (arith, ap (λ x. n * x) one) in
    nat_cmp-scaled (m * 10 ^ b) (n * 10 ^ a) (10 ^ t) (ten t) ∙ (λ i. nat_cmp (left i) (right i))
    ∙ sym (nat_cmp-scaled (m * 10 ^ t) (n * 10 ^ s) (10 ^ b) (ten b))

by_indexes : (a b m n s t : ℕ) → s < 256 → t < 256 → HasDigits m a → HasDigits n b → (r : Ordering)
    → MatchOrdering r (a + 255 - s < b + 255 - t) (a + 255 - s ≡ b + 255 - t) (b + 255 - t < a + 255 - s)
    → ordering_then r (nat_cmp (m * 10 ^ b) (n * 10 ^ a)) ≡ nat_cmp (m * 10 ^ t) (n * 10 ^ s)
by_indexes a b m n s t p q x y Less l = sym (is_less _ _ (farther a b m n s t x y (omega arith)))
by_indexes a b m n s t p q x y Equal l = as_far a b m n s t (omega arith)
by_indexes a b m n s t p q x y Greater l = sym (is_greater _ _ (farther b a n m t s y x (omega arith)))

pub exponents_and_digits : (a b m n s t : ℕ) → s < 256 → t < 256 → HasDigits m a → HasDigits n b
    → ordering_then (nat_cmp (a + 255 - s) (b + 255 - t)) (nat_cmp (m * 10 ^ b) (n * 10 ^ a)) ≡ nat_cmp (m * 10 ^ t) (n * 10 ^ s)
exponents_and_digits a b m n s t p q x y =
    by_indexes a b m n s t p q x y (nat_cmp (a + 255 - s) (b + 255 - t)) (ranks (a + 255 - s) (b + 255 - t))

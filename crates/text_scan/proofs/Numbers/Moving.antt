-- Numbers whose point an exponent moves, as far as numbers in range go.
use Rattle.std.proofs.Common.{◌≡◌, ℕ, zero, suc, ◌+◌, ◌-◌, ◌*◌, ◌^◌, ◌<◌, ◌≤◌, ◌&&◌, Bool, true, false, Option, None, refl, sym, subst, ap, ◌∙◌, inl, inr, ⊎_elim, arith, true≢false}
use Rattle.std.specs.Prelude.{nat_le, nat_lt, unsigned_abs}
use Rattle.std.proofs.lemmas.Bool.{and_right, cond-false}
use Rattle.std.proofs.lemmas.Bool.Decides.{nat_tests}
use Rattle.std.proofs.Math.Nat.{pow-le-pow_right, pow-zero, mul-le-mul_right, mul-le-mul_left, one-le-pow}
use Rattle.jsonb_spec.specs.Grammar.ExactNumber.{exact_number, moved_number}
use Rattle.jsonb_spec.specs.Number.Signed.{signed_by}
use Rattle.jsonb_spec.specs.Tree.{Num}
use Rattle.text_scan.specs.ExactRead.{IsClamped, Shifts}
use Rattle.jsonb_spec.specs.Parsing.ExactNumber.{few_digits}
use Rattle.text_scan.specs.declared.parser.exact.Shift.{Shift}
use Rattle.text_scan.proofs.Numbers.Forms.{size_is}
use Rattle.text_scan.proofs.Numbers.Steps.{is_not_below}

-- ---- numbers in range

-- the number of this scale and magnitude
abbrev pub number_of : Bool → ℕ → ℕ → Num
number_of negative scale m = exact_number scale (signed_by negative m)

pub too_deep : (negative : Bool) (scale m : ℕ) → 38 < scale → few_digits (number_of negative scale m) ≡ None
too_deep negative scale m high =
    let first : nat_le scale 38 ≡ false = grind (arith, nat_tests) in
    cond-false (nat_le scale 38 && nat_lt (unsigned_abs (signed_by negative m)) (10 ^ 38)) _ _ (ap (λ b. b && nat_lt (unsigned_abs (signed_by negative m)) (10 ^ 38)) first)

pub too_great : (negative : Bool) (scale m : ℕ) → 10 ^ 38 ≤ m → few_digits (number_of negative scale m) ≡ None
too_great negative scale m large =
    let second : nat_lt (unsigned_abs (signed_by negative m)) (10 ^ 38) ≡ false = ap (λ (n : ℕ). nat_lt n (10 ^ 38)) (size_is negative m) ∙ is_not_below m (10 ^ 38) large in
    cond-false (nat_le scale 38 && nat_lt (unsigned_abs (signed_by negative m)) (10 ^ 38)) _ _ (and_right (nat_le scale 38) _ second)

-- ---- a point that is moved

moved_is : (negative : Bool) (m behind right left scale whole : ℕ) → (behind + left) - right ≡ scale → m * 10 ^ (right - behind) ≡ whole → moved_number negative m behind right left ≡ number_of negative scale whole
unfolding moved_number
moved_is negative m behind right left scale whole p q = ap (λ s. number_of negative s (m * 10 ^ (right - behind))) p ∙ ap (number_of negative scale) q

once : (m steps : ℕ) → steps ≡ 0 → m * 10 ^ steps ≡ m
once m steps e = ap (λ (n : ℕ). m * 10 ^ n) e ∙ ap (λ (n : ℕ). m * n) (pow-zero 10) ∙ omega arith

-- by a shift to the left, or to the right
to_left : (s : Shift) (right left : ℕ) → s.left ≡ true → Shifts s right left → (right ≡ 0) × IsClamped s.by left
to_left s right left is (inl shifts) = (shifts.1, shifts.2)
to_left s right left is (inr other) = absurd (true≢false (sym is ∙ other.0))

to_right : (s : Shift) (right left : ℕ) → s.left ≡ false → Shifts s right left → (left ≡ 0) × IsClamped s.by right
to_right s right left is (inl other) = absurd (true≢false (sym other.0 ∙ is))
to_right s right left is (inr shifts) = (shifts.1, shifts.2)

exactly : (e n : ℕ) → e < 10 ^ 19 → IsClamped e n → e ≡ n
exactly e n small (inl same) = same
exactly e n small (inr far) = absurd (omega (arith, far.0, small))

-- past any number in range
pub moved_deep : (o : Option Num) (negative : Bool) (m behind : ℕ) (s : Shift) (right left : ℕ) → s.left ≡ true → 38 < s.by → Shifts s right left → o ≡ None → o ≡ few_digits (moved_number negative m behind right left)
moved_deep o negative m behind s right left is far shifts none =
    let to = to_left s right left is shifts in
    let large : 38 < left = ⊎_elim (λ same. omega (arith, same, far)) (λ both. omega (arith, both.1)) to.1 in
    none ∙ sym (ap few_digits (moved_is negative m behind right left (behind + left) m (omega (arith, to.0)) (once m (right - behind) (omega (arith, to.0)))) ∙ too_deep negative (behind + left) m (omega (arith, large)))

pub moved_left : (o : Option Num) (negative : Bool) (m behind : ℕ) (s : Shift) (right left : ℕ) → s.left ≡ true → s.by ≤ 38 → Shifts s right left → o ≡ few_digits (number_of negative (behind + s.by) m) → o ≡ few_digits (moved_number negative m behind right left)
moved_left o negative m behind s right left is few shifts made =
    let to = to_left s right left is shifts in
    let same = exactly s.by left (omega (arith, few)) to.1 in
    made ∙ ap few_digits (sym (moved_is negative m behind right left (behind + s.by) m (omega (arith, to.0, same)) (once m (right - behind) (omega (arith, to.0)))))

pub moved_short : (o : Option Num) (negative : Bool) (m behind : ℕ) (s : Shift) (right left : ℕ) → behind < 2 ^ 63 → s.left ≡ false → s.by ≤ behind → Shifts s right left → o ≡ few_digits (number_of negative (behind - s.by) m) → o ≡ few_digits (moved_number negative m behind right left)
moved_short o negative m behind s right left small is few shifts made =
    let to = to_right s right left is shifts in
    let same = exactly s.by right (omega (arith, few, small)) to.1 in
    made ∙ ap few_digits (sym (moved_is negative m behind right left (behind - s.by) m (omega (arith, to.0, same)) (once m (right - behind) (omega (arith, same, few)))))

-- ---- zeros behind a digit

at_least : (m steps : ℕ) → 0 < m → 39 ≤ steps → 10 ^ 39 ≤ m * 10 ^ steps
at_least m steps some far =
    let power : 10 ^ 39 ≤ 10 ^ steps = pow-le-pow_right {n = 10} (omega arith) {i = 39} {j = steps} far in
    let one : 1 * 10 ^ steps ≤ m * 10 ^ steps = mul-le-mul_right (10 ^ steps) (omega (arith, some)) in
    omega (arith, power, one)

pub is_great : (m zeros : ℕ) → (m ≡ 0 → ⊥) → 38 < zeros → 10 ^ 38 ≤ m * 10 ^ zeros
is_great m zeros some far = omega (arith, at_least m zeros (omega (arith, some)) (omega (arith, far)))

clamped_same : (m behind e n : ℕ) → behind < 2 ^ 63 → IsClamped e n → m * 10 ^ (e - behind) < 2 ^ 128 → m * 10 ^ (n - behind) ≡ m * 10 ^ (e - behind)
clamped_same zero behind e n small clamped h = omega arith
clamped_same (suc m) behind e n small (inl same) h = ap (λ (k : ℕ). suc m * 10 ^ (k - behind)) (sym same)
clamped_same (suc m) behind e n small (inr far) h = absurd (omega (arith, h, at_least (suc m) (e - behind) (omega arith) (omega (arith, far.0, small))))

clamped_great : (m behind e n : ℕ) → behind < 2 ^ 63 → IsClamped e n → 10 ^ 38 ≤ m * 10 ^ (e - behind) → 10 ^ 38 ≤ m * 10 ^ (n - behind)
clamped_great zero behind e n small clamped h = absurd (omega (arith, h))
clamped_great (suc m) behind e n small (inl same) h = subst (λ (k : ℕ). 10 ^ 38 ≤ suc m * 10 ^ (k - behind)) same h
clamped_great (suc m) behind e n small (inr far) h = omega (arith, at_least (suc m) (n - behind) (omega arith) (omega (arith, far.1, small)))

still_far : (behind e n : ℕ) → behind < 2 ^ 63 → behind < e → IsClamped e n → behind ≤ n
still_far behind e n small past (inl same) = omega (arith, same, past)
still_far behind e n small past (inr far) = omega (arith, far.1, small)

pub moved_great : (o : Option Num) (negative : Bool) (m behind : ℕ) (s : Shift) (right left : ℕ) → behind < 2 ^ 63 → s.left ≡ false → behind < s.by → Shifts s right left → 10 ^ 38 ≤ m * 10 ^ (s.by - behind) → o ≡ None → o ≡ few_digits (moved_number negative m behind right left)
moved_great o negative m behind s right left small is past shifts large none =
    let to = to_right s right left is shifts in
    none ∙ sym (ap few_digits (moved_is negative m behind right left 0 (m * 10 ^ (right - behind)) (omega (arith, to.0, still_far behind s.by right small past to.1)) refl) ∙ too_great negative 0 (m * 10 ^ (right - behind)) (clamped_great m behind s.by right small to.1 large))

pub moved_far : (o : Option Num) (negative : Bool) (m behind : ℕ) (s : Shift) (right left whole : ℕ) → behind < 2 ^ 63 → s.left ≡ false → behind < s.by → Shifts s right left → whole ≡ m * 10 ^ (s.by - behind) → whole < 2 ^ 128 → o ≡ few_digits (number_of negative 0 whole) → o ≡ few_digits (moved_number negative m behind right left)
moved_far o negative m behind s right left whole small is past shifts value below made =
    let to = to_right s right left is shifts in
    let equal : m * 10 ^ (right - behind) ≡ whole = clamped_same m behind s.by right small to.1 (omega (arith, value, below)) ∙ sym value in
    made ∙ ap few_digits (sym (moved_is negative m behind right left 0 whole (omega (arith, to.0, still_far behind s.by right small past to.1)) equal))

-- digits that are too great before any exponent
pub moved_large : (o : Option Num) (negative : Bool) (m behind right left : ℕ) → 10 ^ 38 ≤ m → o ≡ None → o ≡ few_digits (moved_number negative m behind right left)
moved_large o negative m behind right left large none =
    none ∙ sym (ap few_digits (moved_is negative m behind right left ((behind + left) - right) (m * 10 ^ (right - behind)) refl refl) ∙ too_great negative ((behind + left) - right) (m * 10 ^ (right - behind)) (omega (arith, large, mul-le-mul_left m (one-le-pow (right - behind) 10 (omega arith)))))

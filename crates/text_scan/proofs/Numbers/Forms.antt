-- The form of a number, by its scale, precision and integer.
use Rattle.std.proofs.Common.{◌≡◌, ◌≢◌, ◌⊎◌, ℕ, ◌-◌, ◌^◌, ◌<◌, ◌≤◌, ◌&&◌, Bool, true, false, zero, suc, refl, ap, ◌∙◌, inl, inr, ⊎_elim, arith, ℤ, pos, neg_ℤ}
use Rattle.std.specs.Prelude.{◌==◌, nat_le, nat_lt, unsigned_abs, FitsSigned}
use Rattle.std.specs.Int.{w64}
use Rattle.std.proofs.lemmas.Bool.{cases_lt, and_right}
use Rattle.std.proofs.lemmas.Bool.Decides.{nat_tests}
use Rattle.std.proofs.Math.Nat.{pow-le-pow_right}
use Rattle.jsonb_spec.specs.Grammar.ExactNumber.{exact_form, exact_number}
use Rattle.jsonb_spec.specs.Grammar.ExtendedNumber.{decimal_form, decimal_number}
use Rattle.jsonb_spec.specs.Number.Signed.{signed_by}
use Rattle.jsonb_spec.specs.Tree.{int64, uint64, decimal64, decimal128, Num}
use Rattle.text_scan.proofs.Numbers.Steps.{is_below, is_not_below}

at_most : (a b : ℕ) → a ≤ b → nat_le a b ≡ true
at_most a b h = grind (arith, nat_tests)

not_at_most : (a b : ℕ) → b < a → nat_le a b ≡ false
not_at_most a b h = grind (arith, nat_tests)

-- a number past 18 digits
many_digits : (precision v : ℕ) → 10 ^ 18 ≤ v → v < 10 ^ precision → 18 < precision
many_digits precision v large small =
    ⊎_elim (λ few. absurd (omega (arith, large, small, pow-le-pow_right {n = 10} (omega arith) {i = precision} {j = 18} (omega (arith, few))))) (λ many. omega (arith, many)) (cases_lt precision 19)

pub form_unsigned : (precision v : ℕ) (z : ℤ) → z ≡ pos v → v < 2 ^ 64 → ◌≡◌ {A = Num} (record { form = uint64; scale = 0; whole = pos v }) (decimal_number 0 precision z)
unfolding decimal_form
form_unsigned precision v z same small = rw (same, at_most 0 v (omega arith), is_below v (2 ^ 64) small) refl

pub form_signed : (precision v : ℕ) → 0 < v → v ≤ 2 ^ 63 → ◌≡◌ {A = Num} (record { form = int64; scale = 0; whole = neg_ℤ (pos v) }) (decimal_number 0 precision (neg_ℤ (pos v)))
unfolding decimal_form
form_signed precision zero some small = absurd (omega (arith, some))
form_signed precision (suc v) some small = rw (at_most v (2 ^ 63 - 1) (omega (arith, small))) refl

pub form_wide : (precision v : ℕ) → 2 ^ 63 < v → v < 10 ^ precision → ◌≡◌ {A = Num} (record { form = decimal128; scale = 0; whole = neg_ℤ (pos v) }) (decimal_number 0 precision (neg_ℤ (pos v)))
unfolding decimal_form
form_wide precision zero large small = absurd (omega (arith, large))
form_wide precision (suc v) large small = rw (not_at_most v (2 ^ 63 - 1) (omega (arith, large)), not_at_most precision 18 (many_digits precision (suc v) (omega (arith, large)) small)) refl

pub form_wide_unsigned : (precision v : ℕ) → 2 ^ 64 ≤ v → v < 10 ^ precision → ◌≡◌ {A = Num} (record { form = decimal128; scale = 0; whole = pos v }) (decimal_number 0 precision (pos v))
unfolding decimal_form
form_wide_unsigned precision v large small =
    rw (at_most 0 v (omega arith), is_not_below v (2 ^ 64) large, is_not_below v 0 (omega arith), not_at_most precision 18 (many_digits precision v (omega (arith, large)) small)) refl

pub form_wide_signed : (precision v : ℕ) (negative : Bool) → 2 ^ 64 ≤ v → v < 10 ^ precision → ◌≡◌ {A = Num} (record { form = decimal128; scale = 0; whole = signed_by negative v }) (decimal_number 0 precision (signed_by negative v))
form_wide_signed precision v false large small = form_wide_unsigned precision v large small
form_wide_signed precision v true large small = form_wide precision v (omega (arith, large)) small

pub form_scaled : (scale precision : ℕ) (z : ℤ) → scale ≢ 0 → precision ≤ 18 → ◌≡◌ {A = Num} (record { form = decimal64; scale = scale; whole = z }) (decimal_number scale precision z)
unfolding decimal_form
form_scaled scale precision z some few =
    let tested : (scale == 0) ≡ false = grind (arith, nat_tests) in rw (tested, at_most precision 18 few) refl

pub form_scaled_wide : (scale precision : ℕ) (z : ℤ) → scale ≢ 0 → 18 < precision → ◌≡◌ {A = Num} (record { form = decimal128; scale = scale; whole = z }) (decimal_number scale precision z)
unfolding decimal_form
form_scaled_wide scale precision z some many =
    let tested : (scale == 0) ≡ false = grind (arith, nat_tests) in rw (tested, not_at_most precision 18 many) refl

pub negated_large : (v : ℕ) → 0 < v → ¬ FitsSigned w64 (neg_ℤ (pos v)) → 2 ^ 63 < v
negated_large zero some past = absurd (omega (arith, some))
negated_large (suc v) some past = ⊎_elim (λ small. absurd (past (record { sfits = small }))) (λ large. omega (arith, large)) (cases_lt v (2 ^ 63))

pub negated_small : (v : ℕ) → FitsSigned w64 (neg_ℤ (pos v)) → v ≤ 2 ^ 63
negated_small zero fits = omega arith
negated_small (suc v) fits = omega (arith, fits.sfits)

-- how large the digits' number is, by how many they are
pub below_power : (precision most v : ℕ) → precision ≤ most → v < 10 ^ precision → v < 10 ^ most
below_power precision most v few small = omega (arith, small, pow-le-pow_right {n = 10} (omega arith) {i = precision} {j = most} few)

-- ---- at the exact value

pub size_is : (negative : Bool) (m : ℕ) → unsigned_abs (signed_by negative m) ≡ m
size_is false m = refl
size_is true zero = refl
size_is true (suc m) = refl

exact_few : (scale precision m : ℕ) (negative : Bool) → scale ≤ 18 → m < 10 ^ 18 → precision ≤ 18 → decimal_number scale precision (signed_by negative m) ≡ exact_number scale (signed_by negative m)
unfolding decimal_form exact_form
exact_few scale precision m negative low small few =
    let tested : nat_lt (unsigned_abs (signed_by negative m)) (10 ^ 18) ≡ true = ap (λ (n : ℕ). nat_lt n (10 ^ 18)) (size_is negative m) ∙ is_below m (10 ^ 18) small in
    rw (at_most precision 18 few, at_most scale 18 low, tested) refl

exact_many : (scale precision m : ℕ) (negative : Bool) → (18 < scale) ⊎ (10 ^ 18 ≤ m) → 18 < precision → decimal_number scale precision (signed_by negative m) ≡ exact_number scale (signed_by negative m)
unfolding decimal_form exact_form
exact_many scale precision m negative many past = rw (not_at_most precision 18 past, tested many) refl
  where
    tested : (18 < scale) ⊎ (10 ^ 18 ≤ m) → (nat_le scale 18 && nat_lt (unsigned_abs (signed_by negative m)) (10 ^ 18)) ≡ false
    tested (inl high) = ap (λ b. b && nat_lt (unsigned_abs (signed_by negative m)) (10 ^ 18)) (not_at_most scale 18 high)
    tested (inr large) = and_right (nat_le scale 18) _ (ap (λ (n : ℕ). nat_lt n (10 ^ 18)) (size_is negative m) ∙ is_not_below m (10 ^ 18) large)

pub exact_whole : (n : Num) (scale m : ℕ) (negative : Bool) → scale ≡ 0 → m < 10 ^ 38 → ((precision : ℕ) → m < 10 ^ precision → n ≡ decimal_number 0 precision (signed_by negative m)) → n ≡ exact_number scale (signed_by negative m)
exact_whole n scale m negative none small number =
    ⊎_elim (λ few. number 18 few ∙ exact_few 0 18 m negative (omega arith) few (omega arith)) (λ many. number 38 small ∙ exact_many 0 38 m negative (inr many) (omega arith)) (cases_lt m (10 ^ 18))
    ∙ ap (λ s. exact_number s (signed_by negative m)) (omega (arith, none))

pub exact_short : (n : Num) (scale m : ℕ) (negative : Bool) → scale ≤ 18 → m < 10 ^ 18 → ((precision : ℕ) → precision ≤ 18 → m < 10 ^ precision → n ≡ decimal_number scale precision (signed_by negative m)) → n ≡ exact_number scale (signed_by negative m)
exact_short n scale m negative few small number = number 18 (omega arith) small ∙ exact_few scale 18 m negative few small (omega arith)

pub exact_long : (scale m : ℕ) (negative : Bool) → scale ≢ 0 → (18 < scale) ⊎ (10 ^ 18 ≤ m) → ◌≡◌ {A = Num} (record { form = decimal128; scale = scale; whole = signed_by negative m }) (exact_number scale (signed_by negative m))
exact_long scale m negative some many = form_scaled_wide scale 19 (signed_by negative m) some (omega arith) ∙ exact_many scale 19 m negative many (omega arith)

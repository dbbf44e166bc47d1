-- The digits of numbers below 100, from a table.
use Rattle.std.proofs.Common.{◌≡◌, ℕ, ◌+◌, ◌*◌, ◌/◌, ◌%◌, ◌<◌, true, eqb, get_or, refl}
use Rattle.std.proofs.lemmas.Bool.{agree_below_at, eqb-true}
use Rattle.key_text.specs.declared.number.TheConstants.{PAIRS}

pub tens_at : (pair : ℕ) → pair < 100 → get_or PAIRS (pair * 2) 0 ≡ 48 + pair / 10
tens_at pair h = eqb-true (get_or PAIRS (pair * 2) 0) (48 + pair / 10) (agree_below_at (λ (p : ℕ). eqb (get_or PAIRS (p * 2) 0) (48 + p / 10)) (λ (p : ℕ). true) 100 pair refl h)

pub ones_at : (pair : ℕ) → pair < 100 → get_or PAIRS (pair * 2 + 1) 0 ≡ 48 + pair % 10
ones_at pair h = eqb-true (get_or PAIRS (pair * 2 + 1) 0) (48 + pair % 10) (agree_below_at (λ (p : ℕ). eqb (get_or PAIRS (p * 2 + 1) 0) (48 + p % 10)) (λ (p : ℕ). true) 100 pair refl h)

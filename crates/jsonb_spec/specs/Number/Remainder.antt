-- The remainder of integers.
use Rattle.std.specs.Prelude.{◌≡◌, ◌⊎◌, ◌<◌, ◌^◌, ℤ, pos, neg_ℤ, ◌+ℤ◌, ◌*ℤ◌, unsigned_abs}
use Rattle.std.specs.Int.{is_negative}

-- rest is what a whole number of b leaves of a, less than b and with the sign of a, signs aside
pub record IsRemainder (a b rest : ℤ) : Type 0 where
  pub quotient : ℤ
  pub whole : a ≡ quotient *ℤ b +ℤ rest
  pub less : unsigned_abs rest < unsigned_abs b
  pub sign : (rest ≡ pos 0) ⊎ (is_negative rest ≡ is_negative a)

-- the one quotient of an `Int64` by an `Int64` that overflows
abbrev pub IsLeastByMinusOne : ℤ → ℤ → Type 0
IsLeastByMinusOne a b = (a ≡ neg_ℤ (pos (2 ^ 63))) × (b ≡ neg_ℤ (pos 1))

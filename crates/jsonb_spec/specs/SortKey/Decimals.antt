-- The decimal that a number is, with the fewest digits.
use Rattle.std.specs.Prelude.{◌≡◌, ◌≢◌, ℕ, ◌%◌, ◌^◌, ◌<◌, ◌≤◌, ℤ, pos, ◌*ℤ◌, unsigned_abs}
use Rattle.jsonb_spec.specs.Tree.{Num, Tree, number}

-- The number is digits / 10^scale, and no digit of these can be left out.
pub record HasDecimal (x : Num) (digits : ℤ) (scale : ℕ) : Type 0 where
  pub value : x.whole *ℤ pos (10 ^ scale) ≡ digits *ℤ pos (10 ^ x.scale)
  pub fewest : scale ≢ 0 → unsigned_abs digits % 10 ≢ 0

-- It is that, with at most 18 digits.
abbrev pub HasFewDigits : Num → ℤ → ℕ → Type 0
HasFewDigits x digits scale = HasDecimal x digits scale × (unsigned_abs digits < 10 ^ 18)

-- It has more than 18 digits.
abbrev pub HasManyDigits : Num → Type 0
HasManyDigits x = (digits : ℤ) → (scale : ℕ) → HasDecimal x digits scale → 10 ^ 18 ≤ unsigned_abs digits

-- It is a number, and digits / 10^scale with at most 18 digits.
abbrev pub IsShortDecimal : Tree → ℤ → ℕ → Type 0
IsShortDecimal (number n) digits scale = HasFewDigits n digits scale
IsShortDecimal t digits scale = ⊥

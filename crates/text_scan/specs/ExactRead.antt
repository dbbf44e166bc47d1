-- What the code reads of a number at its exact value.
use Rattle.std.specs.Prelude.{◌≡◌, ◌⊎◌, ℕ, ◌<◌, ◌≤◌, ◌^◌, true, false, List, length, slice_index}
use Rattle.std.specs.Str.Parse.{digits_value}
use Rattle.jsonb_spec.specs.Ascii as ascii
use Rattle.text_scan.specs.declared.parser.exact.DecimalRead.{DecimalRead}
use Rattle.text_scan.specs.declared.parser.exact.Shift.{Shift}
use Rattle.jsonb_spec.specs.Parsing.ExtendedNumber.{core_start, front_end, behind_end, scale_at, all_digits}

-- The first number means the second: they are the same, or both are too great to distinguish.
abbrev pub IsClamped : ℕ → ℕ → Type 0
IsClamped clamped n = (clamped ≡ n) ⊎ ((10 ^ 19 ≤ clamped) × (10 ^ 19 ≤ n))

-- the point is moved so far to the right, or so far to the left
abbrev pub Shifts : Shift → ℕ → ℕ → Type 0
Shifts shift right left = ((shift.left ≡ true) × (right ≡ 0) × IsClamped shift.by left)
    ⊎ ((shift.left ≡ false) × (left ≡ 0) × IsClamped shift.by right)

-- The bytes begin with a decimal that has a digit before its point, and a digit behind one that is there; this is read
-- of it, and neither a point follows nor, before the point, an x.
pub record IsDecimalRead (bytes : List ℕ) (decimal : DecimalRead) : Type 0 where
  pub some : core_start bytes < front_end bytes
  pub value : decimal.value ≡ digits_value 10 (all_digits bytes)
  pub behind : decimal.behind ≡ scale_at bytes
  pub ends : decimal.end ≡ behind_end bytes
  pub within : decimal.end ≤ length bytes
  pub behind_within : decimal.behind ≤ decimal.end
  pub fraction : slice_index bytes (front_end bytes) ≡ ascii.point → 0 < scale_at bytes
  pub no_point : ¬ (slice_index bytes (behind_end bytes) ≡ ascii.point)
  pub no_lower_x : ¬ (slice_index bytes (front_end bytes) ≡ ascii.lower_x)
  pub no_upper_x : ¬ (slice_index bytes (front_end bytes) ≡ ascii.upper_x)

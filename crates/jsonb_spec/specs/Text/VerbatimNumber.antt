-- Decimals that are written as they are.
use Rattle.std.specs.Prelude.{◌≡◌, ℕ, ◌+◌, ◌<◌, ◌^◌, Bool, true, List, drop, slice_index, take, unsigned_abs}
use Rattle.std.specs.Fmt.{decimal}
use Rattle.jsonb_spec.specs.Ascii as ascii
use Rattle.jsonb_spec.specs.Text.NumberText.{number_text, with_point, zero_padded}
use Rattle.jsonb_spec.specs.Tree.{Num}
use Rattle.jsonb_spec.specs.Parsing.Number.{digits_length, whole_start}

-- The bytes are digits with a point, at most 18, as they are written behind this sign.
pub record IsDecimalBody (negative : Bool) (bytes : List ℕ) : Type 0 where
  pub scale : ℕ
  pub magnitude : ℕ
  pub text : bytes ≡ with_point scale (zero_padded (scale + 1) (decimal magnitude))
  pub point : 0 < scale
  pub few : scale < 18
  pub small : magnitude < 10 ^ 18
  pub some : negative ≡ true → 0 < magnitude

-- The bytes begin with the text of this number, which ends at this index and has a point and at most 18 digits.
pub record IsVerbatimDecimal (bytes : List ℕ) (end : ℕ) : Type 0 where
  pub value : Num
  pub text : take end bytes ≡ number_text value
  pub point : 0 < value.scale
  pub few : value.scale < 18
  pub small : unsigned_abs value.whole < 10 ^ 18

-- The bytes begin with so many digits, behind a minus if one is there, and a point is behind them.
pub record IsBeforePoint (bytes : List ℕ) (front : ℕ) : Type 0 where
  pub some : 0 < front
  pub digits : digits_length (drop (whole_start bytes) bytes) ≡ front
  pub point : slice_index (drop (whole_start bytes) bytes) front ≡ ascii.point

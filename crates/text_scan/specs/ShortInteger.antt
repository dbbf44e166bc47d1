-- The integer that is made of a sign and a magnitude, and integers that are written as they are.
use Rattle.std.specs.Prelude.{◌≡◌, ℕ, ◌<◌, true, List, drop, Ok, pos, neg_ℤ, if◌then◌else◌}
use Rattle.jsonb_spec.specs.Tree.{Num, int64, uint64}
use Rattle.jsonb_spec.specs.Parsing.Number.{standard_number_at}
use Rattle.text_scan.specs.declared.parser.number.ShortInteger.{ShortInteger}

abbrev pub short_view : ShortInteger → Num
short_view read = if read.negative then record { form = int64; scale = 0; whole = neg_ℤ (pos read.magnitude) }
    else record { form = uint64; scale = 0; whole = pos read.magnitude }

-- The bytes begin with this integer, which ends at this index and is no 0 with a minus.
pub record IsVerbatimInteger (bytes : List ℕ) (end : ℕ) : Type 0 where
  pub read : ShortInteger
  pub found : (size : ℕ) → standard_number_at size bytes ≡ Ok (short_view read, drop end bytes)
  pub some : read.negative ≡ true → 0 < read.magnitude

-- What numbers of strict texts begin with.
use Rattle.std.specs.Prelude.{ℕ, List}
use Rattle.text_scan.specs.ShortInteger.{IsVerbatimInteger}
use Rattle.jsonb_spec.specs.Text.VerbatimNumber.{IsBeforePoint}
use Rattle.text_scan.specs.declared.parser.integer.StrictFront.{StrictFront}
use Rattle.text_scan.specs.declared.parser.integer.StrictFront.TheVariants as front

-- The bytes begin with this integer, or with so many digits before a point.
abbrev pub IsFrontOf : List ℕ → StrictFront → Type 0
IsFrontOf bytes (front.Integer end) = IsVerbatimInteger bytes end
IsFrontOf bytes (front.Point len) = IsBeforePoint bytes len

-- how many bytes the integer has, or the digits before the point
abbrev pub front_len : StrictFront → ℕ
front_len (front.Integer end) = end
front_len (front.Point len) = len

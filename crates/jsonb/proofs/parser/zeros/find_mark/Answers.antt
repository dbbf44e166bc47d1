use Rattle.std.proofs.Common.{arith}
use Rattle.jsonb.proofs.EndZeros.Marks.{near_found}
use Rattle.jsonb.proofs.parser.zeros.find_mark.Goals as goal

pub returns-then-marks-ne0 : goal.returns-then-marks-ne0
returns-then-marks-ne0 c =
    near_found c.args.bytes.now c.near_bits-points.result c.near_bits-minuses.result c.lowest.result (omega arith) c.near_bits-points.ensures c.near_bits-minuses.ensures c.lowest.ensures.set c.lowest.ensures.below

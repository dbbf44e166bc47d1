use Rattle.std.proofs.Common.{length}
use Rattle.jsonb.proofs.EndZeros.Marks.{ShowsAll}
use Rattle.jsonb.proofs.parser.zeros.may_end_in_zeros.Given as goal

abbrev pub invariant-marks : goal.invariant-marks
invariant-marks l = record { shows : ShowsAll l.text l.rest }

abbrev pub decreases-marks : goal.decreases-marks
decreases-marks l = length l.rest

use Rattle.std.proofs.Common.{length}
use Rattle.jsonb.proofs.part.+part_at.Given as goal

abbrev pub decreases-part_at : goal.decreases-part_at
decreases-part_at l = length l.path.now

use Rattle.std.proofs.Common.{length}
use Rattle.key_walk.proofs.Fronts.{FrontSoFar}
use Rattle.key_walk.proofs.names.front_of.Given as goal

abbrev pub invariant-bytes : goal.invariant-bytes
invariant-bytes l = FrontSoFar l.name l.left l.number l.count

abbrev pub decreases-bytes : goal.decreases-bytes
decreases-bytes l = length l.left

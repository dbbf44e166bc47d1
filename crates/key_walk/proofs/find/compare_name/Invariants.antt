use Rattle.std.proofs.Common.{◌≤◌, length}
use Rattle.key_walk.proofs.Occurrence.{ComparesNames}
use Rattle.key_walk.proofs.find.compare_name.Given as goal

abbrev pub invariant-bytes : goal.invariant-bytes
invariant-bytes l = record { compares : ComparesNames l.name l.bytes l.left l.rest; within : length l.rest ≤ length l.bytes }

abbrev pub decreases-bytes : goal.decreases-bytes
decreases-bytes l = length l.left

use Rattle.std.proofs.Common.{◌≤◌, ◌+◌, length}
use Rattle.key_walk.proofs.Occurrence.{CountsParts}
use Rattle.key_walk.proofs.find.count_left.Given as goal

abbrev pub invariant-parts : goal.invariant-parts
invariant-parts l = record { counts : CountsParts l.object l.bytes l.count l.rest; within : l.count + length l.rest ≤ length l.bytes }

abbrev pub decreases-parts : goal.decreases-parts
decreases-parts l = length l.rest

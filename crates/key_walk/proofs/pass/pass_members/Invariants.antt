use Rattle.std.proofs.Common.{◌≤◌, length}
use Rattle.key_walk.proofs.Passing.{PassesMembers}
use Rattle.key_walk.proofs.pass.pass_members.Given as goal

abbrev pub invariant-members : goal.invariant-members
invariant-members l = record { passes : PassesMembers l.members l.name l.rest; within : length l.rest ≤ length l.members }

abbrev pub decreases-members : goal.decreases-members
decreases-members l = length l.rest

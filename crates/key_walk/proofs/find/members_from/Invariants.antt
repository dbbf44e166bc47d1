use Rattle.std.proofs.Common.{◌≤◌, length}
use Rattle.key_walk.proofs.Occurrence.{WalksMembers}
use Rattle.key_walk.specs.Fronts.{IsNext}
use Rattle.key_walk.proofs.find.members_from.Given as goal

abbrev pub invariant-members : goal.invariant-members
invariant-members g l = record { walks : WalksMembers l.members l.name l.rest; within : length l.rest ≤ length l.members; next : IsNext l.name l.next }

abbrev pub decreases-members : goal.decreases-members
decreases-members g l = length l.rest

use Rattle.std.proofs.Common.{length}
use Rattle.key_edit.proofs.Spotted.{WalksMembers}
use Rattle.key_edit.proofs.spot.member_spot.Given as goal

abbrev pub invariant-members : goal.invariant-members
invariant-members l = record { walks : WalksMembers l.members l.name l.rest }

abbrev pub decreases-members : goal.decreases-members
decreases-members l = length l.rest

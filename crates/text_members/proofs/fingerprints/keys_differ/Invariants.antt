use Rattle.std.proofs.Common.{length}
use Rattle.text_members.proofs.DifferentKeys.{DifferFrom}
use Rattle.text_members.proofs.fingerprints.keys_differ.Given as goal

abbrev pub invariant-members : goal.invariant-members
invariant-members l = DifferFrom l.bits l.row l.keys.text.now l.keys.decoded.now l.keys.members.now l.rest

abbrev pub decreases-members : goal.decreases-members
decreases-members l = length l.rest

use Rattle.std.proofs.Common.{◌<◌, length}
use Rattle.key_edit.proofs.Items.{WalksBack}
use Rattle.key_edit.proofs.spot.items_back.Given as goal

abbrev pub invariant-items : goal.invariant-items
invariant-items l = record { walks : WalksBack l.items l.back l.since l.rest l.later l.earlier; below : l.since < l.back }

abbrev pub decreases-items : goal.decreases-items
decreases-items l = length l.rest

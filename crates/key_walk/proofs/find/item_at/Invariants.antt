use Rattle.std.proofs.Common.{◌≤◌, length}
use Rattle.key_walk.proofs.Occurrence.{WalksItems}
use Rattle.key_walk.proofs.find.item_at.Given as goal

abbrev pub invariant-items : goal.invariant-items
invariant-items l = record { walks : WalksItems l.items l.index l.before l.rest; within : length l.rest ≤ length l.items }

abbrev pub decreases-items : goal.decreases-items
decreases-items l = length l.rest

use Rattle.key_edit.proofs.Items.{PassesItems}
use Rattle.key_edit.proofs.spot.pass_items.Given as goal

abbrev pub invariant-items : goal.invariant-items
invariant-items l = PassesItems l.items l.count l.left l.rest

abbrev pub decreases-items : goal.decreases-items
decreases-items l = l.left

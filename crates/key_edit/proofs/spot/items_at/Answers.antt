use Rattle.std.proofs.Common.{sym, subst}
use Rattle.key_edit.specs.Spots.{FindsItems}
use Rattle.key_edit.proofs.spot.items_at.Goals as goal

pub returns-then-from_end : goal.returns-then-from_end
returns-then-from_end c = record { found = subst (λ b. FindsItems c.args.items.now (b, c.args.number) c.items_back.result) (sym c.if-from_end.true) c.items_back.ensures.found }

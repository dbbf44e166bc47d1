use Rattle.std.proofs.Common.{◌++◌, ap, append_assoc, subst, ◌∙◌}
use Rattle.jsonb_spec.specs.SortKey.Open.{name_key}
use Rattle.jsonb_spec.specs.Text.Appending.{AppendsAllOrNothing}
use Rattle.key_edit.proofs.Putting.{value_front}
use Rattle.key_edit.proofs.edit.write_part.Goals as goal

pub returns-then-spot-clause-written : goal.returns-then-spot-clause-written
returns-then-spot-clause-written c = λ there name front e st named.
    let object = c.args.slot.now.object in
    let spot = c.args.slot.now.spot in
    let behind = c.args.slot.now.behind.now in
    let is = c.front.ensures (front ++ name_key object name) (value_front object name front c.args.key.now spot behind there e st c.if-spot.true) in
    subst (AppendsAllOrNothing c.splice.result c.args.out.now c.splice.new.out) (ap (λ f. f ++ (c.args.part.now ++ behind)) is ∙ append_assoc front (name_key object name) (c.args.part.now ++ behind)) c.splice.ensures

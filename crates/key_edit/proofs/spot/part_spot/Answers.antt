use Rattle.std.proofs.Common.{sym, ◌∙◌}
use Rattle.key_edit.proofs.Spotted.{of_array, of_object}
use Rattle.key_edit.proofs.spot.part_spot.Goals as goal

pub returns-then-object : goal.returns-then-object
returns-then-object c = record {
  spot = λ o is h more e depth_left f. of_object o c.args.object c.args.name.now c.as_bytes.result.now c.args.parts.now more depth_left c.in_ok-spot.spot c.if-object.true c.as_bytes.ensures.value is h e f c.in_ok-spot.ensures.spot;
}

pub returns : goal.returns
returns c = record {
  spot = λ o is h more e depth_left f. of_array o c.args.object c.args.name.now c.args.parts.now more depth_left c.in_ok-spot-2.spot (c.in-Some.from_end, c.in-Some.number) c.if-object.false (sym c.step_of.ensures.named ∙ c.in-Some.is) is h e f c.in_ok-spot-2.ensures.spot;
}

use Rattle.std.proofs.Common.{arith, ap, ◌∙◌, is_lt}
use Rattle.key_walk.proofs.CheckedNames.{above_last}
use Rattle.key_walk.proofs.check.is_above.Goals as goal

pub returns : goal.returns
returns c =
    above_last c.args.bytes.now c.split_at.result.1.now c.in-Some-after_text.rest.now c.front.result.now c.args.key.now c.args.last c.in-Some.start c.is_lt.result c.if-last-eq-NO_NAME.false (omega (arith, c.in-Some.ensures)) c.split_at.ensures.back c.in-Some-after_text.ensures.found c.front.ensures (c.is_lt.ensures ∙ ap is_lt c.cmp.ensures)

use Rattle.std.proofs.Common.{sym, ◌∙◌}
use Rattle.key_walk.proofs.AfterTexts.{not_over, split_there}
use Rattle.key_walk.proofs.skip.split_text.Goals as goal

pub returns-in-Some-clause-split : goal.returns-in-Some-clause-split
returns-in-Some-clause-split c = λ text more e.
    let there = split_there text more c.args.bytes.now c.run_before_zero.result c.in-Some.rest.now e c.run_before_zero.ensures.run.none (sym c.split_at.ensures.back ∙ c.in-Some.ensures.some) in
    (c.split_at.ensures.front ∙ there.0, there.1)

pub returns-in-Some-clause-not_over : goal.returns-in-Some-clause-not_over
returns-in-Some-clause-not_over c = λ tail e.
    not_over c.args.bytes.now c.in-Some.rest.now tail c.run_before_zero.result c.run_before_zero.ensures.run.none (sym c.split_at.ensures.back ∙ c.in-Some.ensures.some) e

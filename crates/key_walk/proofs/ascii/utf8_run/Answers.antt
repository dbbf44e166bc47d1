use Rattle.std.proofs.Common.{arith}
use Rattle.key_walk.proofs.PlainBytes.{no_zero_there, zero_first}
use Rattle.key_walk.proofs.ascii.utf8_run.Goals as goal

pub returns-in_default : goal.returns-in_default
returns-in_default c = λ more t.
    no_zero_there c.args.bytes.now c.split_at.result.1.now more c.plain_run-run.result c.plain_run-run.ensures.run.within c.plain_run-run.ensures.run.plain c.split_at.ensures.back (λ k l h. absurd (omega (arith, l, c.in_default.ensures.cases))) t

pub returns-then-first-eq0 : goal.returns-then-first-eq0
returns-then-first-eq0 c =
    zero_first c.args.bytes.now c.split_at.result.1.now c.in-Some.field-0-1.now c.plain_run-run.result c.in-Some.first.now c.plain_run-run.ensures.run.within c.plain_run-run.ensures.run.plain c.split_at.ensures.back c.in-Some.ensures.cases.0 c.if-first-eq0.true

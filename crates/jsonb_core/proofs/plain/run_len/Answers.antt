use Rattle.std.proofs.Common.{arith}
use Rattle.std.proofs.lemmas.List.{take_rest}
use Rattle.jsonb_core.proofs.Strings.PlainRuns.{plain_on}
use Rattle.jsonb_core.proofs.plain.run_len.Goals as goal

pub returns-then-run-lt16-clause-plain : goal.returns-then-run-lt16-clause-plain
returns-then-run-lt16-clause-plain c =
    let bytes = c.args.bytes.now in
    plain_on bytes c.vectors.len _ c.vectors.invariant.1 (rw (take_rest bytes c.vectors.len) at c.run_of_sixteen-run.ensures.plain)

pub vectors-preserved : goal.vectors-preserved
vectors-preserved c =
    let bytes = c.args.bytes.now in
    (omega arith, plain_on bytes c.vectors.len _ c.vectors.invariant.1 (rw (take_rest bytes c.vectors.len) at c.run_of_sixteen-run.ensures.plain))

pub returns-clause-plain : goal.returns-clause-plain
returns-clause-plain c =
    let bytes = c.args.bytes.now in
    plain_on bytes c.vectors.len _ c.vectors.invariant.1 (rw (take_rest bytes c.vectors.len) at c.run_of_few.ensures.plain)

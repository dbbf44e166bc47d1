use Rattle.std.proofs.Common.{◌≡◌, arith}
use Rattle.std.proofs.lemmas.List.{take_rest}
use Rattle.jsonb_core.proofs.Strings.PlainRuns.{plain_on}
use Rattle.jsonb_core.proofs.plain.run_of_few.Goals as goal

pub returns-clause-plain : goal.returns-clause-plain
returns-clause-plain c =
    let bytes = c.args.bytes.now in
    let whole : c.run_of_eight-run.result ≡ 8 = omega arith in
    plain_on bytes 8 _ (rw whole at c.run_of_eight-run.ensures.plain) (rw (take_rest bytes 8) at c.run_by_bytes-2.ensures.plain)

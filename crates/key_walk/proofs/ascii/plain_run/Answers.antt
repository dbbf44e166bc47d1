use Rattle.std.proofs.Common.{rules, arith, drop, refl}
use Rattle.std.proofs.lemmas.List.{take_rest}
use Rattle.key_walk.proofs.PlainBytes.{plain_on}
use Rattle.key_walk.proofs.ascii.plain_run.Goals as goal

pub returns : goal.returns
returns c =
    let bytes = c.args.bytes.now in
    record { run = record { within = search rules; plain = plain_on bytes (drop 16 bytes) 16 c.long_run.result refl (λ k l. c.run_of_sixteen-run.ensures.plain k (omega (arith, l, c.if-run-lt16.false))) (rw (take_rest bytes 16) at c.long_run.ensures.run.plain) } }

use Rattle.std.proofs.Common.{rules, arith, drop, refl}
use Rattle.std.proofs.lemmas.List.{take_rest}
use Rattle.key_walk.proofs.PlainBytes.{no_zeros_on}
use Rattle.key_walk.proofs.ascii.run_before_zero.Goals as goal

pub returns : goal.returns
returns c =
    let bytes = c.args.bytes.now in
    record { run = record { within = search rules; none = no_zeros_on bytes (drop 16 bytes) 16 c.next_run_before_zero.result refl (λ k l. c.run_of_sixteen_before_zero-run.ensures.none k (omega (arith, l, c.if-run-lt16.false))) (rw (take_rest bytes 16) at c.next_run_before_zero.ensures.run.none) } }

use Rattle.std.proofs.Common.{rules, arith, drop, refl}
use Rattle.std.proofs.lemmas.List.{take_rest}
use Rattle.key_walk.proofs.PlainBytes.{no_zeros_on}
use Rattle.key_walk.proofs.ascii.long_run_before_zero.Goals as goal

pub wide-preserved : goal.wide-preserved
wide-preserved c =
    let bytes = c.args.bytes.now in
    let none = c.have_no_zero.ensures c.if-not-have_no_zero.false in
    (omega arith, no_zeros_on bytes (drop c.wide.len bytes) c.wide.len 128 refl c.wide.invariant.1 (rw (take_rest bytes c.wide.len) at none))

pub returns : goal.returns
returns c =
    let bytes = c.args.bytes.now in
    record { run = record { within = search rules; none = no_zeros_on bytes (drop c.wide.len bytes) c.wide.len c.run_by_vectors_before_zero.result refl c.wide.invariant.1 (rw (take_rest bytes c.wide.len) at c.run_by_vectors_before_zero.ensures.run.none) } }

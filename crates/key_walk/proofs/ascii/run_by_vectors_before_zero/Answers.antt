use Rattle.std.proofs.Common.{rules, arith, drop, refl}
use Rattle.std.proofs.lemmas.List.{take_rest}
use Rattle.key_walk.proofs.PlainBytes.{no_zeros_on}
use Rattle.key_walk.proofs.ascii.run_by_vectors_before_zero.Goals as goal

pub returns-then-run-lt16 : goal.returns-then-run-lt16
returns-then-run-lt16 c =
    let bytes = c.args.bytes.now in
    record { run = record { within = search rules; none = no_zeros_on bytes (drop c.vectors.len bytes) c.vectors.len c.run_of_sixteen_before_zero-run.result refl c.vectors.invariant.1 (rw (take_rest bytes c.vectors.len) at c.run_of_sixteen_before_zero-run.ensures.none) } }

pub vectors-preserved : goal.vectors-preserved
vectors-preserved c =
    let bytes = c.args.bytes.now in
    (omega arith, no_zeros_on bytes (drop c.vectors.len bytes) c.vectors.len c.run_of_sixteen_before_zero-run.result refl c.vectors.invariant.1 (rw (take_rest bytes c.vectors.len) at c.run_of_sixteen_before_zero-run.ensures.none))

pub returns : goal.returns
returns c =
    let bytes = c.args.bytes.now in
    record { run = record { within = search rules; none = no_zeros_on bytes (drop c.vectors.len bytes) c.vectors.len c.run_by_bytes_before_zero.result refl c.vectors.invariant.1 (rw (take_rest bytes c.vectors.len) at c.run_by_bytes_before_zero.ensures.run.none) } }

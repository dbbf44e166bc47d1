use Rattle.std.proofs.Common.{rules, arith, drop, refl}
use Rattle.std.proofs.lemmas.List.{take_rest}
use Rattle.key_walk.proofs.PlainBytes.{plain_on}
use Rattle.key_walk.proofs.ascii.run_by_vectors.Goals as goal

pub returns-then-run-lt16 : goal.returns-then-run-lt16
returns-then-run-lt16 c =
    let bytes = c.args.bytes.now in
    record { run = record { within = search rules; plain = plain_on bytes (drop c.vectors.len bytes) c.vectors.len c.run_of_sixteen-run.result refl c.vectors.invariant.1 (rw (take_rest bytes c.vectors.len) at c.run_of_sixteen-run.ensures.plain) } }

pub vectors-preserved : goal.vectors-preserved
vectors-preserved c =
    let bytes = c.args.bytes.now in
    (omega arith, plain_on bytes (drop c.vectors.len bytes) c.vectors.len c.run_of_sixteen-run.result refl c.vectors.invariant.1 (rw (take_rest bytes c.vectors.len) at c.run_of_sixteen-run.ensures.plain))

pub returns : goal.returns
returns c =
    let bytes = c.args.bytes.now in
    record { run = record { within = search rules; plain = plain_on bytes (drop c.vectors.len bytes) c.vectors.len c.run_by_bytes.result refl c.vectors.invariant.1 (rw (take_rest bytes c.vectors.len) at c.run_by_bytes.ensures.run.plain) } }

use Rattle.std.proofs.Common.{rules, arith, drop, refl}
use Rattle.std.proofs.lemmas.List.{take_rest}
use Rattle.key_walk.proofs.PlainBytes.{plain_on}
use Rattle.key_walk.proofs.ascii.long_run.Goals as goal

pub returns-then-not-are_plain : goal.returns-then-not-are_plain
returns-then-not-are_plain c =
    let bytes = c.args.bytes.now in
    record { run = record { within = search rules; plain = plain_on bytes (drop c.wide.len bytes) c.wide.len c.run_by_vectors.result refl c.wide.invariant.1 (rw (take_rest bytes c.wide.len) at c.run_by_vectors.ensures.run.plain) } }

pub wide-preserved : goal.wide-preserved
wide-preserved c =
    let bytes = c.args.bytes.now in
    (omega arith, plain_on bytes (drop c.wide.len bytes) c.wide.len 64 refl c.wide.invariant.1 (rw (take_rest bytes c.wide.len) at (c.are_plain.ensures c.if-not-are_plain.false)))

pub returns : goal.returns
returns c =
    let bytes = c.args.bytes.now in
    record { run = record { within = search rules; plain = plain_on bytes (drop c.wide.len bytes) c.wide.len c.run_by_vectors-2.result refl c.wide.invariant.1 (rw (take_rest bytes c.wide.len) at c.run_by_vectors-2.ensures.run.plain) } }

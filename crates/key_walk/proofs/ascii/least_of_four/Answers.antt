use Rattle.std.proofs.Common.{arith}
use Rattle.key_walk.proofs.LesserBytes.{none_behind}
use Rattle.key_walk.proofs.ascii.least_of_four.Goals as goal

pub returns : goal.returns
returns c none =
    let bytes = c.args.bytes.now in
    let halves = c.lesser.ensures none in
    let first = c.lesser-first.ensures halves.0 in
    let second = c.lesser-second.ensures halves.1 in
    let one = none_behind bytes 0 16 (λ k l. absurd (omega (arith, l))) first.0 in
    none_behind bytes 48 16 (none_behind bytes 32 16 (none_behind bytes 16 16 one first.1) second.0) second.1

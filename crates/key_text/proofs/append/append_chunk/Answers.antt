use Rattle.std.proofs.Common.{◌≡◌, ◌+◌, length, take, ap₂, ◌∙◌, arith}
use Rattle.std.proofs.Math.Seq.{take-append-add}
use Rattle.key_text.proofs.append.append_chunk.Goals as goal

pub returns-then-capacity-len : goal.returns-then-capacity-len
returns-then-capacity-len c =
    let old = c.args.buf.now.items in
    let count : c.len-len.result + c.args.count ≡ length old + c.args.count = omega arith in
    let taken = c.truncate.ensures.items ∙ ap₂ take count c.in_ok-extend_from_slice.ensures.items ∙ take-append-add old c.args.bytes.now c.args.count in
    record { ok = taken; retained = record { more = take c.args.count c.args.bytes.now; extended = taken }; full = tt; capacity = omega arith }

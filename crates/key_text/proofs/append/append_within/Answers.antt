use Rattle.std.proofs.Common.{rules, ◌≡◌, ◌+◌, length, take, if◌then◌else◌, ap, ap₂, ◌∙◌, ◌++◌, arith}
use Rattle.std.proofs.Math.Seq.{take-append-add}
use Rattle.key_text.proofs.append.append_within.Goals as goal

pub returns : goal.returns
returns c =
    let old = c.args.buf.now.items in
    let fits = c.extend_from_slice.ensures.succeeds (omega (arith, c.if-capacity-len.false, c.len-len.ensures, c.capacity.ensures)) in
    let items = c.extend_from_slice.ensures.items ∙ ap (λ b. if b then old ++ c.args.bytes.now else old) fits in
    let count : c.len-len.result + c.args.count ≡ length old + c.args.count = omega arith in
    let taken = c.truncate.ensures.items ∙ ap₂ take count items ∙ take-append-add old c.args.bytes.now c.args.count in
    record {
      appended = λ _. taken;
      unchanged = search rules;
      preserves = record { retained = record { more = take c.args.count c.args.bytes.now; extended = taken }; capacity = omega arith };
    }

use Rattle.std.proofs.Common.{◌≡◌, ◌+◌, ◌++◌, length, take, ap, ap₂, ◌∙◌, arith}
use Rattle.std.proofs.Math.Seq.{take-append-add}
use Rattle.std.proofs.lemmas.List.{take-take}
use Rattle.key_document.proofs.from_text.string.append_first.Goals as goal

pub returns-in-Some : goal.returns-in-Some
returns-in-Some c =
    let old = c.args.out.now.items in
    let count : c.len-len.result + c.args.count ≡ length old + c.args.count = omega arith in
    let taken = c.truncate.ensures.items ∙ ap₂ take count c.in_ok-extend_from_slice.ensures.items ∙ take-append-add old c.in-Some.chunk.now c.args.count
    ∙ ap (λ l. old ++ l) (ap (take c.args.count) c.in-Some.ensures.cases.same ∙ take-take c.args.count 16 c.args.bytes.now (omega arith)) in
    record { ok = taken; retained = record { more = take c.args.count c.args.bytes.now; extended = taken }; full = tt; capacity = omega arith }

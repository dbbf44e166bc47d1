use Rattle.std.proofs.Common.{◌≡◌, ◌+◌, length, take, ap₂, ◌∙◌, arith}
use Rattle.std.proofs.Math.Seq.{take-append-add}
use Rattle.text_write.proofs.short.append_part.Goals as goal

pub returns-clause-retained : goal.returns-clause-retained
returns-clause-retained g c =
    let old = c.args.out.now.items in
    let count : c.len-len.result + c.args.count ≡ length old + c.args.count = omega arith in
    record {
      more = take c.args.count c.args.row;
      extended = c.truncate.ensures.items ∙ ap₂ take count c.in_ok-extend_from_slice.ensures.items ∙ take-append-add old c.args.row c.args.count;
    }

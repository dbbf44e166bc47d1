use Rattle.std.proofs.Common.{replicate, ap, ◌∙◌, arith}
use Rattle.std.proofs.lemmas.List.{take-replicate}
use Rattle.jsonb_core.proofs.Appending.Appended.{extended, appends_then}
use Rattle.key_zeros.proofs.Restoring.{ending_split}
use Rattle.key_zeros.proofs.restore.append_ending.Goals as goal

pub returns : goal.returns
returns c =
    let zeros = extended c.extend_from_slice.result c.append_point.new.buf c.extend_from_slice.new.self _ _ c.extend_from_slice.ensures.items c.extend_from_slice.ensures.full c.extend_from_slice.ensures.capacity (take-replicate c.from.result 255 48 (omega arith) ∙ ap (λ n. replicate n 48) c.from.ensures) in
    appends_then c.extend_from_slice.result c.args.buf.now c.append_point.new.buf c.extend_from_slice.new.self _ _ _ (ending_split c.args.pointed c.args.count) c.in_ok-append_point.ensures.ok c.in_ok-append_point.ensures.capacity zeros

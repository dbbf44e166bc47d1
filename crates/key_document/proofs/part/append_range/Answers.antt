use Rattle.std.proofs.Common.{◌≡◌, ◌<◌, ◌^◌, length, ap, ◌∙◌, arith}
use Rattle.jsonb_spec.specs.SortKey.{key_of}
use Rattle.key_document.proofs.Slots.{range_is}
use Rattle.key_document.proofs.part.append_range.Goals as goal

pub returns-clause-part : goal.returns-clause-part
returns-clause-part c = λ t r e u ru at size.
    let is_key : c.split_document.result.0.now ≡ key_of t = c.split_document.ensures.key t r e in
    let small : length (key_of t) < 2 ^ 63 = omega (arith, ap length is_key) in
    c.append_slot.ensures.appended t u r.proper small (c.split_document.ensures.zeros t r e) ru at (range_is c.split_document.result.0.now at.0 (key_of u) at.2.behind c.args.offset c.args.size (is_key ∙ at.2.key_is) at.1 size)

use Rattle.std.proofs.Common.{refl, rules}
use Rattle.jsonb_core.proofs.Appending.Appended.{appends_as, appends_then, extended}
use Rattle.jsonb_value.proofs.value.sort_key.append_zoned.Goals as goal

pub returns : goal.returns
returns c =
    let first = c.in_ok-append_32_bits.ensures.appends in
    let last = c.extend_from_slice.ensures in
    let second = extended c.extend_from_slice.result c.append_32_bits.new.buf c.extend_from_slice.new.self _ _ last.items last.full last.capacity c.key_of_64_bits.ensures in
    record { appends = appends_as _ _ _ _ _ (search rules) (appends_then _ c.args.buf.now c.append_32_bits.new.buf _ _ _ _ refl first.ok first.capacity second) }

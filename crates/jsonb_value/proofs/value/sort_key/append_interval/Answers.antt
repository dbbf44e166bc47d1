use Rattle.std.proofs.Common.{◌++◌, refl, ap, ◌∙◌, rules}
use Rattle.jsonb_core.proofs.Appending.Appended.{appends_as, appends_then, extended}
use Rattle.jsonb_value.proofs.value.sort_key.append_interval.Goals as goal

pub returns : goal.returns
returns c =
    let first = c.in_ok-append_32_bits.ensures.appends in
    let second = c.in_ok-extend_from_slice.ensures in
    let last = c.extend_from_slice-2.ensures in
    let third = extended c.extend_from_slice-2.result c.extend_from_slice.new.self c.extend_from_slice-2.new.self _ _ last.items last.full last.capacity c.key_of_64_bits.ensures in
    let all = appends_then _ c.args.buf.now c.append_32_bits.new.buf _ _ _ _ refl first.ok first.capacity (appends_then _ _ c.extend_from_slice.new.self _ _ _ _ refl (second.items ∙ ap (λ t. c.append_32_bits.new.buf.items ++ t) c.key_of_32_bits.ensures) second.capacity third) in
    record { appends = appends_as _ _ _ _ _ (search rules) all }

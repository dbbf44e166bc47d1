use Rattle.std.proofs.Common.{◌-◌, ◌+◌, ◌++◌, map, sym, ap, ◌∙◌, arith}
use Rattle.jsonb_spec.specs.SortKey.{exponent_key, invert_if}
use Rattle.jsonb_core.proofs.Appending.Appended.{appends_as}
use Rattle.jsonb_core.proofs.SortKeys.Numbers.{magnitude_split}
use Rattle.jsonb_core.proofs.number.sort_key.append_short.Goals as goal

pub returns : goal.returns
returns c =
    let count = c.short_digit_count-count in
    let exponent = count.result + 255 - c.from.result in
    let split = magnitude_split c.args.negative c.args.scale c.args.magnitude count.result exponent count.ensures.count (omega (arith, c.from.ensures)) in
    let e = c.write_exponent-start.ensures.bytes ∙ ap (λ digits. map (invert_if c.args.negative) (exponent_key exponent) ++ digits) c.write_digits-digits.ensures.bytes ∙ sym split in
    record { appends = appends_as _ _ _ _ _ e c.append_row.ensures.appends }

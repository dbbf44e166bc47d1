use Rattle.jsonb_core.proofs.Appending.Appended.{appends_as}
use Rattle.jsonb_core.proofs.SortKeys.Pairs.{small_key}
use Rattle.jsonb_core.proofs.number.sort_key.append_small.Goals as goal

pub returns : goal.returns
returns c =
    let e = small_key c.args.negative c.args.scale c.args.magnitude c.small_digits-count.result.0 c.small_digits-count.result.1 c.invert_if-exponent.result c.invert_if.result c.requires.near c.small_digits-count.ensures.few.0 c.small_digits-count.ensures.count c.small_digits-count.ensures.digits c.invert_if-exponent.ensures c.invert_if.ensures in
    record { appends = appends_as _ _ _ _ _ e c.append_two.ensures.appends }

use Rattle.std.proofs.Common.{◌-◌, ◌+◌, arith}
use Rattle.jsonb_core.proofs.Appending.Appended.{appends_then, lacks_first}
use Rattle.jsonb_core.proofs.SortKeys.Numbers.{magnitude_split}
use Rattle.jsonb_core.proofs.number.sort_key.append_long.Goals as goal

pub returns-in_err-append_exponent : goal.returns-in_err-append_exponent
returns-in_err-append_exponent c =
    let e = magnitude_split c.args.negative c.args.scale c.args.magnitude c.digit_count-count.result (c.digit_count-count.result + 255 - c.from.result) c.digit_count-count.ensures.count (omega arith) in
    let h = c.in_err-append_exponent.ensures.appends in
    record { appends = lacks_first c.from_residual.result c.args.buf.now c.append_exponent.new.buf _ _ _ e c.from_residual.ensures.0 h.retained h.capacity h.full }

pub returns : goal.returns
returns c =
    let e = magnitude_split c.args.negative c.args.scale c.args.magnitude c.digit_count-count.result (c.digit_count-count.result + 255 - c.from.result) c.digit_count-count.ensures.count (omega arith) in
    let h = c.in_ok-append_exponent.ensures.appends in
    record { appends = appends_then _ _ c.append_exponent.new.buf _ _ _ _ e h.ok h.capacity c.append_digits.ensures.appends }

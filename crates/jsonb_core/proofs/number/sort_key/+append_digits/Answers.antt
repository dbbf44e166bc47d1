use Rattle.std.proofs.Common.{◌-◌, [], ◌∷◌, map, arith}
use Rattle.jsonb_spec.specs.SortKey.{digits_key, invert_if}
use Rattle.jsonb_core.proofs.Appending.Appended.{appends_as, appends_then, lacks_first}
use Rattle.jsonb_core.proofs.SortKeys.Digits.{below_hundred, last_two, two_and_more}
use Rattle.jsonb_core.proofs.SortKeys.Pairs.{two_or_more}
use Rattle.jsonb_core.proofs.number.sort_key.+append_digits.Goals as goal

pub split_pair-pair-requires-clause-below : goal.split_pair-pair-requires-clause-below
split_pair-pair-requires-clause-below t c =
    below_hundred c.args.count c.args.magnitude (two_or_more c.args.count c.args.magnitude c.requires.below c.else-count-le20.either) c.requires.below

pub returns-then-rest-eq0 : goal.returns-then-rest-eq0
returns-then-rest-eq0 t c =
    let split = c.split_pair-pair in
    let e = last_two c.args.negative c.args.count (c.args.count - 2) c.args.magnitude c.invert_if.result split.result.0 split.result.1 (omega (arith, two_or_more c.args.count c.args.magnitude c.requires.below c.else-count-le20.either)) split.ensures.pair split.ensures.rest c.if-rest-eq0.true c.invert_if.ensures in
    record { appends = appends_as _ _ _ _ _ e c.append_byte.ensures.appends }

pub returns-in_err-append_byte : goal.returns-in_err-append_byte
returns-in_err-append_byte t c =
    let split = c.split_pair-pair in
    let e = two_and_more c.args.negative c.args.count (c.args.count - 2) c.args.magnitude c.invert_if-2.result split.result.0 split.result.1 (omega (arith, two_or_more c.args.count c.args.magnitude c.requires.below c.else-count-le20.either)) split.ensures.pair split.ensures.rest c.if-rest-eq0.false c.invert_if-2.ensures in
    let piece = map (invert_if c.args.negative) (digits_key (c.args.count - 2) split.result.1) in
    let h = c.in_err-append_byte.ensures.appends in
    record { appends = lacks_first c.from_residual.result c.args.buf.now c.append_byte-2.new.buf (c.invert_if-2.result ∷ []) piece _ e c.from_residual.ensures.0 h.retained h.capacity h.full }

pub returns : goal.returns
returns t c =
    let split = c.split_pair-pair in
    let e = two_and_more c.args.negative c.args.count (c.args.count - 2) c.args.magnitude c.invert_if-2.result split.result.0 split.result.1 (omega (arith, two_or_more c.args.count c.args.magnitude c.requires.below c.else-count-le20.either)) split.ensures.pair split.ensures.rest c.if-rest-eq0.false c.invert_if-2.ensures in
    let h = c.in_ok-append_byte.ensures.appends in
    record { appends = appends_then _ _ c.append_byte-2.new.buf _ _ _ _ e h.ok h.capacity c.append_digits.ensures.appends }

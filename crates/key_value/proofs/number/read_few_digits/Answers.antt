use Rattle.std.proofs.Common.{◌/◌, ◌^◌, ◌≤◌, arith, refl}
use Rattle.jsonb_core.proofs.SortKeys.Counts.{power_le}
use Rattle.key_value.proofs.Numbers.{last_some}
use Rattle.key_value.proofs.number.read_few_digits.Goals as goal

pub returns-clause-found : goal.returns-clause-found
returns-clause-found c = λ C M below some high few more e.
    let front = c.read_front-front.result in
    (last_some c.args.negative c.args.bytes.now front.0 front.1 front.2.now c.in_ok-byte.byte.now c.in_ok-byte.field-0-1.now c.invert_if-byte.result c.read_front-front.ensures.reads c.in_ok-byte.ensures.cases.0 c.invert_if-byte.ensures C M below some high few more e (omega (arith, c.if-byte-ne0.false)) (c.invert_if-byte.result / 2) c.in_ok-digits.digits c.in_ok-digits.last refl c.in_ok-digits.ensures).0

pub short_last_pair-requires : goal.short_last_pair-requires
short_last_pair-requires c =
    let front = c.read_front-front.result in
    let power : 10 ^ front.1 ≤ 10 ^ 16 = power_le front.1 16 c.read_front-front.ensures.few in
    omega (arith, power, c.read_front-front.ensures.below)

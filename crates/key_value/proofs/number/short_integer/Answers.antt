use Rattle.std.proofs.Common.{◌≡◌, ◌+◌, ◌-◌, ◌*◌, ◌/◌, ◌^◌, ◌<◌, ◌≤◌, rules, ap, ◌∙◌, arith}
use Rattle.std.specs.Bool.{nat_lt}
use Rattle.jsonb_core.proofs.SortKeys.Counts.{power_le}
use Rattle.key_value.proofs.Exact.{if_some}
use Rattle.key_value.proofs.Integers.{few_digits, same_sign, signed_value}
use Rattle.key_value.proofs.number.short_integer.Goals as goal

pub returns : goal.returns
returns c = λ n proper more e.
    let front = c.read_front-front.result in
    let pair = c.invert_if-byte.result / 2 in
    let tenfold : c.in_ok-magnitude.magnitude * 10 ^ (front.1 + 2) ≡ (front.0 * 100 + pair) * 10 ^ (c.in_ok-exponent.exponent - 255) =
    c.in_ok-magnitude.ensures ∙ ap (λ p. (front.0 * 100 + p) * 10 ^ (c.in_ok-exponent.exponent - 255)) c.from.ensures in
    let whole = few_digits n proper c.in_ok-first.first.now c.in_ok-first.field-0-1.now c.args.bytes.now more c.in_ok-first.ensures.cases.0 c.if-first.false e c.in_ok-exponent.exponent c.in_ok-exponent.digits.now c.in_ok-exponent.ensures.exponent (omega (arith, c.if-exponent-lt256.false)) front.0 front.1 front.2.now c.read_front-front.ensures.reads c.in_ok-byte.byte.now c.in_ok-byte.field-0-1.now c.invert_if-byte.result c.in_ok-byte.ensures.cases.0 c.invert_if-byte.ensures (omega (arith, c.if-byte-ne0.false)) c.in_ok-magnitude.magnitude tenfold in
    let sign = same_sign n proper c.in_ok-first.first.now c.in_ok-first.field-0-1.now c.args.bytes.now more c.in_ok-first.ensures.cases.0 c.if-first.false e in
    if_some c.with_short_sign.result c.with_short_sign.ensures.signed (λ v is. signed_value n (nat_lt c.in_ok-first.first.now 128) c.in_ok-magnitude.magnitude v sign whole is)

pub overflow_mul-digits : goal.overflow_mul-digits
overflow_mul-digits c =
    let power : 10 ^ c.read_front-front.result.1 ≤ 10 ^ 16 = power_le c.read_front-front.result.1 16 c.read_front-front.ensures.few in
    omega (arith, power, c.read_front-front.ensures.below)

pub overflow_add-digits : goal.overflow_add-digits
overflow_add-digits c =
    let power : 10 ^ c.read_front-front.result.1 ≤ 10 ^ 16 = power_le c.read_front-front.result.1 16 c.read_front-front.ensures.few in
    let small : c.from.result < 256 = search rules in
    omega (arith, power, c.read_front-front.ensures.below, small)

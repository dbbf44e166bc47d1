use Rattle.std.proofs.Common.{◌+◌, ◌*◌, ◌/◌, ◌^◌, ◌≤◌, arith, refl}
use Rattle.std.proofs.Math.Nat.{pow-zero}
use Rattle.std.proofs.lemmas.Nat.{pow-add}
use Rattle.jsonb_core.proofs.SortKeys.Counts.{power_le}
use Rattle.key_value.proofs.Numbers.{digits_begun, pair_read}
use Rattle.key_value.proofs.number.read_front.Goals as goal

pub overflow_mul-digits : goal.overflow_mul-digits
overflow_mul-digits c =
    let power : 10 ^ c.pairs.count ≤ 10 ^ 14 = power_le c.pairs.count 14 (omega (arith, c.if-count-gt-MAX_FRONT.false)) in
    omega (arith, power, c.pairs.invariant.below)

pub overflow_add-digits : goal.overflow_add-digits
overflow_add-digits c =
    let power : 10 ^ c.pairs.count ≤ 10 ^ 14 = power_le c.pairs.count 14 (omega (arith, c.if-count-gt-MAX_FRONT.false)) in
    omega (arith, power, c.pairs.invariant.below, c.from.ensures, c.if-pair-gt99.false)

pub pairs-preserved : goal.pairs-preserved
pairs-preserved c =
    let small = c.if-pair-gt99.false in
    let odd = c.if-byte-eq0.false in
    let pair = c.invert_if-byte.result / 2 in
    let now = c.pairs.digits * 100 + c.from.result in
    record {
      reads = λ C M below some high few more e.
          pair_read c.args.negative c.args.bytes.now c.pairs.digits c.pairs.count c.pairs.rest.now c.in-Some.byte.now c.in-Some.others.now c.invert_if-byte.result c.pairs.invariant.reads c.in-Some.ensures.cases.0 c.invert_if-byte.ensures C M below some high few more e odd pair now (c.pairs.count + 2) refl (omega (arith, c.from.ensures)) refl;
      below = omega (arith, c.pairs.invariant.below, small, c.from.ensures, pow-add 10 c.pairs.count 2);
      within = omega (arith, c.in-Some.ensures.cases.1, c.pairs.invariant.within);
      few = omega (arith, c.if-count-gt-MAX_FRONT.false);
    }

pub pairs-init : goal.pairs-init
pairs-init c = record {
  reads = digits_begun c.args.negative c.args.bytes.now;
  below = omega (arith, pow-zero 10);
  within = omega arith;
  few = omega arith;
}

use Rattle.std.proofs.Common.{◌+◌, ◌/◌, arith, refl, subst, sym}
use Rattle.jsonb_spec.specs.SortKey.Reading.{ReadsDigits}
use Rattle.key_value.proofs.Numbers.{last_none, last_some, pair_within, pair_read, not_over}
use Rattle.key_value.proofs.number.read_digits.Goals as goal

pub returns-in_err-digits-clause-found : goal.returns-in_err-digits-clause-found
returns-in_err-digits-clause-found c = λ C M below some high few more e.
    absurd (last_none c.args.negative c.args.bytes.now c.pairs.digits c.pairs.count c.pairs.rest.now c.in-Some.byte.now c.in-Some.others.now c.invert_if-byte.result c.pairs.invariant.reads c.in-Some.ensures.cases.0 c.invert_if-byte.ensures C M below some high few more e c.if-byte-eq0.true (c.invert_if-byte.result / 2) refl c.in_err-digits.ensures)

pub returns-clause-found : goal.returns-clause-found
returns-clause-found c = λ C M below some high few more e.
    not_over c.args.negative c.args.bytes.now c.pairs.digits c.pairs.count c.pairs.rest.now c.pairs.invariant.reads c.in_default.ensures.cases C M below some high few more e

pub returns-then-byte-eq0-clause-found : goal.returns-then-byte-eq0-clause-found
returns-then-byte-eq0-clause-found c = λ C M below some high few more e.
    (last_some c.args.negative c.args.bytes.now c.pairs.digits c.pairs.count c.pairs.rest.now c.in-Some.byte.now c.in-Some.others.now c.invert_if-byte.result c.pairs.invariant.reads c.in-Some.ensures.cases.0 c.invert_if-byte.ensures C M below some high few more e c.if-byte-eq0.true (c.invert_if-byte.result / 2) c.in_ok-digits.digits c.in_ok-digits.last refl c.in_ok-digits.ensures).0

pub returns-in_err-checked_mul-clause-found : goal.returns-in_err-checked_mul-clause-found
returns-in_err-checked_mul-clause-found c = λ C M below some high few more e.
    let within = pair_within c.args.negative c.args.bytes.now c.pairs.digits c.pairs.count c.pairs.rest.now c.in-Some.byte.now c.in-Some.others.now c.invert_if-byte.result c.pairs.invariant.reads c.in-Some.ensures.cases.0 c.invert_if-byte.ensures C M below some high few more e c.if-byte-eq0.false (c.invert_if-byte.result / 2) refl in
    absurd (c.in_err-checked_mul.ensures (omega (arith, within)))

pub returns-in_err-digits-2-clause-found : goal.returns-in_err-digits-2-clause-found
returns-in_err-digits-2-clause-found c = λ C M below some high few more e.
    let within = pair_within c.args.negative c.args.bytes.now c.pairs.digits c.pairs.count c.pairs.rest.now c.in-Some.byte.now c.in-Some.others.now c.invert_if-byte.result c.pairs.invariant.reads c.in-Some.ensures.cases.0 c.invert_if-byte.ensures C M below some high few more e c.if-byte-eq0.false (c.invert_if-byte.result / 2) refl in
    absurd (c.in_err-digits-2.ensures (omega (arith, within, c.in_ok-checked_mul.ensures, c.from.ensures)))

pub pairs-preserved : goal.pairs-preserved
pairs-preserved c = record {
  reads = λ C M below some high few more e.
      pair_read c.args.negative c.args.bytes.now c.pairs.digits c.pairs.count c.pairs.rest.now c.in-Some.byte.now c.in-Some.others.now c.invert_if-byte.result c.pairs.invariant.reads c.in-Some.ensures.cases.0 c.invert_if-byte.ensures C M below some high few more e c.if-byte-eq0.false (c.invert_if-byte.result / 2) c.in_ok-digits-2.digits (c.pairs.count + 2) refl (omega (arith, c.in_ok-digits-2.ensures, c.in_ok-checked_mul.ensures, c.from.ensures)) refl;
  few = omega (arith, c.if-count-gt38.false);
}

pub returns-then-byte-eq0-clause-last : goal.returns-then-byte-eq0-clause-last
returns-then-byte-eq0-clause-last c = c.in_ok-digits.ensures.not_zero

pub returns-then-byte-eq0-clause-few : goal.returns-then-byte-eq0-clause-few
returns-then-byte-eq0-clause-few c = omega (arith, c.pairs.invariant.few, c.in_ok-digits.ensures.few)

pub pairs-init : goal.pairs-init
pairs-init c =
    let front = c.read_front-front.result in
    record {
      reads = subst (λ d. ReadsDigits c.args.negative c.args.bytes.now d front.1 front.2.now) (sym c.from-digits.ensures) c.read_front-front.ensures.reads;
      few = omega (arith, c.read_front-front.ensures.few);
    }

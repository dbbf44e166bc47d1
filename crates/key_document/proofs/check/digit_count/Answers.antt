use Rattle.std.proofs.Common.{◌+◌, ◌*◌, ◌/◌, refl, arith}
use Rattle.key_value.proofs.Numbers.{digits_begun, few_read, not_over, pair_read}
use Rattle.key_document.proofs.MostZeros.{one_stripped, two_stripped}
use Rattle.key_document.proofs.check.digit_count.Goals as goal

pub pairs-init : goal.pairs-init
pairs-init c = record { reads = (0, digits_begun c.args.negative c.args.bytes.now); within = omega arith; few = omega arith }

pub returns-then-byte-eq0-2-clause-found : goal.returns-then-byte-eq0-2-clause-found
returns-then-byte-eq0-2-clause-found c = λ C M below some high few more e.
    one_stripped c.args.negative c.args.bytes.now c.pairs.invariant.reads.0 c.pairs.count c.pairs.rest.now c.in-Some.byte.now c.in-Some.others.now c.invert_if-byte.result c.pairs.invariant.reads.1 c.in-Some.ensures.cases.0 c.invert_if-byte.ensures C M below some high few more e c.if-byte-eq0.true c.if-byte-eq0-2.true

pub returns-then-byte-eq0-clause-found : goal.returns-then-byte-eq0-clause-found
returns-then-byte-eq0-clause-found c = λ C M below some high few more e.
    two_stripped c.args.negative c.args.bytes.now c.pairs.invariant.reads.0 c.pairs.count c.pairs.rest.now c.in-Some.byte.now c.in-Some.others.now c.invert_if-byte.result c.pairs.invariant.reads.1 c.in-Some.ensures.cases.0 c.invert_if-byte.ensures C M below some high few more e c.if-byte-eq0.true c.if-byte-eq0-2.false

pub returns-then-count-gt38-clause-found : goal.returns-then-count-gt38-clause-found
returns-then-count-gt38-clause-found c = λ C M below some high few more e.
    few_read c.args.negative c.args.bytes.now c.pairs.invariant.reads.0 c.pairs.count c.pairs.rest.now c.in-Some.byte.now c.in-Some.others.now c.invert_if-byte.result c.pairs.invariant.reads.1 c.in-Some.ensures.cases.0 c.invert_if-byte.ensures C M below some high few more e c.if-byte-eq0.false c.if-count-gt38.true

pub pairs-preserved : goal.pairs-preserved
pairs-preserved c = record {
  reads = (
    c.pairs.invariant.reads.0 * 100 + c.invert_if-byte.result / 2,
    λ C M below some high few more e.
        pair_read c.args.negative c.args.bytes.now c.pairs.invariant.reads.0 c.pairs.count c.pairs.rest.now c.in-Some.byte.now c.in-Some.others.now c.invert_if-byte.result c.pairs.invariant.reads.1 c.in-Some.ensures.cases.0 c.invert_if-byte.ensures C M below some high few more e c.if-byte-eq0.false
        (c.invert_if-byte.result / 2) (c.pairs.invariant.reads.0 * 100 + c.invert_if-byte.result / 2) (c.pairs.count + 2) refl refl refl,
  );
  within = omega (arith, c.in-Some.ensures.cases.1, c.pairs.invariant.within);
  few = omega (arith, c.if-count-gt38.false);
}

pub returns-clause-found : goal.returns-clause-found
returns-clause-found c = λ C M below some high few more e.
    not_over c.args.negative c.args.bytes.now c.pairs.invariant.reads.0 c.pairs.count c.pairs.rest.now c.pairs.invariant.reads.1 c.in_default.ensures.cases C M below some high few more e

use Rattle.std.proofs.Common.{rules, arith}
use Rattle.key_walk.proofs.NumberEnds.{begun, pair_passed, digits_end, all_over, all_low, all_large, all_zeros, all_many, all_reported}
use Rattle.key_walk.proofs.digits.checked_digits.Goals as goal

pub pairs-init : goal.pairs-init
pairs-init c = record { read = begun c.args.negative c.args.bytes.now; few = omega arith; even = omega arith; within = omega arith }

pub returns-then-byte-eq0-clause-found : goal.returns-then-byte-eq0-clause-found
returns-then-byte-eq0-clause-found c =
    digits_end c.args.negative c.args.bytes.now c.pairs.count c.pairs.rest.now c.in-Some-split_first.others.now c.in-Some-split_first.byte.now c.invert_if-byte.result c.in-Some-last_digits.last c.in-Some.first.now c.in-Some.field-0-1.now c.pairs.invariant.read c.in-Some-split_first.ensures.cases.0 (search rules) c.invert_if-byte.ensures c.if-byte-eq0.true (omega (arith, c.if-byte-gt199.false)) c.in-Some-last_digits.ensures
    c.in-Some.ensures.cases.0 (omega (arith, c.if-invert_if-lt20.false, c.invert_if.ensures))

pub pairs-preserved : goal.pairs-preserved
pairs-preserved c = record {
  read = pair_passed c.args.negative c.args.bytes.now c.pairs.count c.pairs.rest.now c.in-Some-split_first.others.now c.in-Some-split_first.byte.now c.invert_if-byte.result c.pairs.invariant.read c.in-Some-split_first.ensures.cases.0 (search rules) c.invert_if-byte.ensures c.if-byte-eq0.false (omega (arith, c.if-byte-gt199.false));
  few = omega (arith, c.if-count-gt34.false);
  even = omega (arith, c.pairs.invariant.even);
  within = omega (arith, c.in-Some-split_first.ensures.cases.1, c.pairs.invariant.within);
}

pub returns-in_default-clause-all : goal.returns-in_default-clause-all
returns-in_default-clause-all c = all_over c.args.negative c.args.bytes.now 0 c.args.bytes.now (begun c.args.negative c.args.bytes.now) c.in_default.ensures.cases

pub returns-then-invert_if-lt20-clause-all : goal.returns-then-invert_if-lt20-clause-all
returns-then-invert_if-lt20-clause-all c = all_low c.args.negative c.args.bytes.now c.in-Some.first.now c.in-Some.field-0-1.now c.in-Some.ensures.cases.0 (omega (arith, c.invert_if.ensures, c.if-invert_if-lt20.true))

pub returns-then-byte-gt199-clause-all : goal.returns-then-byte-gt199-clause-all
returns-then-byte-gt199-clause-all c = all_large c.args.negative c.args.bytes.now c.pairs.count c.pairs.rest.now c.in-Some-split_first.others.now c.in-Some-split_first.byte.now c.invert_if-byte.result c.pairs.invariant.read c.in-Some-split_first.ensures.cases.0 c.invert_if-byte.ensures (omega (arith, c.if-byte-gt199.true))

pub returns-in_default-last_digits-clause-all : goal.returns-in_default-last_digits-clause-all
returns-in_default-last_digits-clause-all c = all_zeros c.args.negative c.args.bytes.now c.pairs.count c.pairs.rest.now c.in-Some-split_first.others.now c.in-Some-split_first.byte.now c.invert_if-byte.result c.pairs.invariant.read c.in-Some-split_first.ensures.cases.0 c.invert_if-byte.ensures c.if-byte-eq0.true c.in_default-last_digits.ensures

pub returns-then-byte-eq0-clause-all : goal.returns-then-byte-eq0-clause-all
returns-then-byte-eq0-clause-all c = all_reported c.args.negative c.args.bytes.now c.pairs.count c.pairs.rest.now c.in-Some-split_first.others c.in-Some-split_first.byte.now c.invert_if-byte.result c.in-Some-last_digits.last c.pairs.invariant.read c.in-Some-split_first.ensures.cases.0 c.invert_if-byte.ensures c.if-byte-eq0.true (omega (arith, c.if-byte-gt199.false)) c.in-Some-last_digits.ensures

pub returns-then-count-gt34-clause-all : goal.returns-then-count-gt34-clause-all
returns-then-count-gt34-clause-all c = all_many c.args.negative c.args.bytes.now c.pairs.count c.pairs.rest.now c.in-Some-split_first.others.now c.in-Some-split_first.byte.now c.invert_if-byte.result c.pairs.invariant.read c.in-Some-split_first.ensures.cases.0 c.invert_if-byte.ensures c.if-byte-eq0.false c.pairs.invariant.even (omega (arith, c.if-count-gt34.true))

pub returns-clause-all : goal.returns-clause-all
returns-clause-all c = all_over c.args.negative c.args.bytes.now c.pairs.count c.pairs.rest.now c.pairs.invariant.read c.in_default-split_first.ensures.cases

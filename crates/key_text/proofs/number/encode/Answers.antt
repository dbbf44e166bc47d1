use Rattle.std.proofs.Common.{refl, arith}
use Rattle.key_text.proofs.Encoding.{none_encoded, pair_small, two_encoded, one_encoded, pair_encoded, not_over}
use Rattle.key_text.proofs.number.encode.Goals as goal

pub pairs-init : goal.pairs-init
pairs-init c = record { encodes = none_encoded c.args.negative c.args.bytes.now c.args.row.now c.requires; within = omega arith; few = omega arith }

pub returns-then-count-gt38-clause-found : goal.returns-then-count-gt38-clause-found
returns-then-count-gt38-clause-found c = λ C M below some few more e.
    let small = pair_small c.args.negative c.args.bytes.now c.pairs.count c.pairs.rest.now c.pairs.row c.in-Some.byte.now c.in-Some.others.now c.invert_if-byte.result c.pairs.invariant.encodes c.in-Some.ensures.cases.0 c.invert_if-byte.ensures C M below some few more e in
    absurd (omega (arith, small.0, c.if-count-gt38.true))

pub returns-then-ones-eq48-clause-found : goal.returns-then-ones-eq48-clause-found
returns-then-ones-eq48-clause-found c = λ C M below some few more e.
    let digits = c.digits_of_pair-tens.ensures (pair_small c.args.negative c.args.bytes.now c.pairs.count c.pairs.rest.now c.pairs.row c.in-Some.byte.now c.in-Some.others.now c.invert_if-byte.result c.pairs.invariant.encodes c.in-Some.ensures.cases.0 c.invert_if-byte.ensures C M below some few more e).1 in
    one_encoded c.args.negative c.args.bytes.now c.pairs.count c.pairs.rest.now c.pairs.row c.in-Some.byte.now c.in-Some.others.now c.invert_if-byte.result c.pairs.invariant.encodes c.in-Some.ensures.cases.0 c.invert_if-byte.ensures C M below some few more e
    _ c.digits_of_pair-tens.result.0 c.digits_of_pair-tens.result.1 c.if-byte-eq0.true (omega (arith, digits.1, c.if-ones-eq48.true)) digits.0 digits.1 refl

pub returns-then-byte-eq0-clause-found : goal.returns-then-byte-eq0-clause-found
returns-then-byte-eq0-clause-found c = λ C M below some few more e.
    let digits = c.digits_of_pair-tens.ensures (pair_small c.args.negative c.args.bytes.now c.pairs.count c.pairs.rest.now c.pairs.row c.in-Some.byte.now c.in-Some.others.now c.invert_if-byte.result c.pairs.invariant.encodes c.in-Some.ensures.cases.0 c.invert_if-byte.ensures C M below some few more e).1 in
    two_encoded c.args.negative c.args.bytes.now c.pairs.count c.pairs.rest.now c.pairs.row c.in-Some.byte.now c.in-Some.others.now c.invert_if-byte.result c.pairs.invariant.encodes c.in-Some.ensures.cases.0 c.invert_if-byte.ensures C M below some few more e
    _ c.digits_of_pair-tens.result.0 c.digits_of_pair-tens.result.1 c.if-byte-eq0.true (λ z. c.if-ones-eq48.false (omega (arith, digits.1, z))) digits.0 digits.1 refl

pub pairs-preserved : goal.pairs-preserved
pairs-preserved c = record {
  encodes = λ C M below some few more e.
      let digits = c.digits_of_pair-tens.ensures (pair_small c.args.negative c.args.bytes.now c.pairs.count c.pairs.rest.now c.pairs.row c.in-Some.byte.now c.in-Some.others.now c.invert_if-byte.result c.pairs.invariant.encodes c.in-Some.ensures.cases.0 c.invert_if-byte.ensures C M below some few more e).1 in
      pair_encoded c.args.negative c.args.bytes.now c.pairs.count c.pairs.rest.now c.pairs.row c.in-Some.byte.now c.in-Some.others.now c.invert_if-byte.result c.pairs.invariant.encodes c.in-Some.ensures.cases.0 c.invert_if-byte.ensures C M below some few more e
      _ c.digits_of_pair-tens.result.0 c.digits_of_pair-tens.result.1 c.if-byte-eq0.false digits.0 digits.1 refl;
  within = omega (arith, c.in-Some.ensures.cases.1, c.pairs.invariant.within);
  few = omega (arith, c.if-count-gt38.false);
}

pub returns-clause-found : goal.returns-clause-found
returns-clause-found c = λ C M below some few more e.
    not_over c.args.negative c.args.bytes.now c.pairs.count c.pairs.rest.now c.pairs.row c.pairs.invariant.encodes c.in_default.ensures.cases C M below some few more e

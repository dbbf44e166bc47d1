use Rattle.std.proofs.Common.{◌+◌, ◌*◌, arith, ap, refl, subst, sym, ◌∙◌}
use Rattle.key_walk.proofs.Fronts.{FrontSoFar, byte_fits, front_begun, front_byte, next_fits, next_number, next_within, whole_fits, whole_number, whole_size}
use Rattle.key_walk.proofs.names.front_of.Goals as goal

pub bytes-init : goal.bytes-init
bytes-init c = front_begun c.args.name.now (λ k. (c.type_inv.name k).fits)

pub overflow_mul-number : goal.overflow_mul-number
overflow_mul-number c = record { fits = omega (arith, next_fits c.bytes.number c.bytes.count c.in-Some.byte.now c.bytes.invariant.low (omega (arith, c.bytes.invariant.most, c.if-count-eq8.false)) (byte_fits c.bytes.left.now c.in-Some.others.now c.in-Some.byte.now c.bytes.invariant.bytes c.in-Some.ensures.cases.0).0) }

pub overflow_add-number : goal.overflow_add-number
overflow_add-number c = record { fits = omega (arith, c.from.ensures, next_fits c.bytes.number c.bytes.count c.in-Some.byte.now c.bytes.invariant.low (omega (arith, c.bytes.invariant.most, c.if-count-eq8.false)) (byte_fits c.bytes.left.now c.in-Some.others.now c.in-Some.byte.now c.bytes.invariant.bytes c.in-Some.ensures.cases.0).0) }

pub returns-then-byte-eq0 : goal.returns-then-byte-eq0
returns-then-byte-eq0 c = record {
  front = record {
    count = c.bytes.count + 1;
    some = omega arith;
    bits = c.first_bytes-then-byte-eq0.ensures.1;
    within = next_within c.args.name.now c.bytes.left.now c.in-Some.others.now c.bytes.number c.bytes.count c.in-Some.byte.now c.bytes.invariant c.in-Some.ensures.cases.0;
    is = c.first_bytes-then-byte-eq0.ensures.0 ∙ ap (λ b. c.bytes.number * 256 + b) c.from.ensures ∙ next_number c.args.name.now c.bytes.left.now c.in-Some.others.now c.bytes.number c.bytes.count c.in-Some.byte.now c.bytes.invariant c.in-Some.ensures.cases.0;
    whole = λ some. absurd (omega (arith, some, c.first_bytes-then-byte-eq0.ensures.2));
  };
  plain = λ size low k l. c.bytes.invariant.plain k (omega (arith, l, low, c.first_bytes-then-byte-eq0.ensures.1));
}

pub bytes-preserved : goal.bytes-preserved
bytes-preserved c =
    subst (λ b. FrontSoFar c.args.name.now c.in-Some.others.now (c.bytes.number * 256 + b) (c.bytes.count + 1)) (sym c.from.ensures)
    (front_byte c.args.name.now c.bytes.left.now c.in-Some.others.now c.bytes.number c.bytes.count c.in-Some.byte.now c.bytes.invariant c.in-Some.ensures.cases.0 (omega (arith, c.bytes.invariant.most, c.if-count-eq8.false)) c.if-byte-eq0.false)

pub overflow_mul-result : goal.overflow_mul-result
overflow_mul-result c = record { fits = omega (arith, whole_fits c.args.name.now c.bytes.left.now c.bytes.number c.bytes.count c.bytes.invariant c.in_default.ensures.cases (omega (arith, c.if-count-gt6.false))) }

pub overflow_add-result : goal.overflow_add-result
overflow_add-result c = record { fits = omega (arith, whole_fits c.args.name.now c.bytes.left.now c.bytes.number c.bytes.count c.bytes.invariant c.in_default.ensures.cases (omega (arith, c.if-count-gt6.false))) }

pub returns : goal.returns
returns c = record {
  front = record {
    count = c.bytes.count + 2;
    some = omega arith;
    bits = omega (arith, c.if-count-gt6.false);
    within = omega (arith, whole_size c.args.name.now c.bytes.left.now c.bytes.number c.bytes.count c.bytes.invariant c.in_default.ensures.cases);
    is = whole_number c.args.name.now c.bytes.left.now c.bytes.number c.bytes.count c.bytes.invariant c.in_default.ensures.cases;
    whole = λ some. (refl, whole_size c.args.name.now c.bytes.left.now c.bytes.number c.bytes.count c.bytes.invariant c.in_default.ensures.cases);
  };
  plain = λ size. absurd (omega (arith, size));
}

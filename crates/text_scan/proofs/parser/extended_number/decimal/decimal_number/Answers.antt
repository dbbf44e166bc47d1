use Rattle.text_scan.proofs.Numbers.Scanned.{front_is, back_is, front_capacity, back_capacity, small_number, not_representable, representable}
use Rattle.std.proofs.Common.{inl, inr, ⊎_elim}
use Rattle.text_scan.proofs.parser.extended_number.decimal.decimal_number.Goals as goal

pub returns-then-ends-end : goal.returns-then-ends-end
returns-then-ends-end c = not_representable c.args.bytes.now c.args.ends c.args.end c.requires (⊎_elim inl (λ both. inr both.1) c.then-ends-end.either)

pub digits_onto-front-requires-clause-are_digits : goal.digits_onto-front-requires-clause-are_digits
digits_onto-front-requires-clause-are_digits c = front_is c.args.bytes.now c.args.ends c.requires

pub digits_onto-front-requires-clause-space : goal.digits_onto-front-requires-clause-space
digits_onto-front-requires-clause-space c = front_capacity c.args.bytes.now c.args.ends c.requires c.if-precision-gt-MOST_DIGITS.false

pub digits_onto-magnitude-requires-clause-are_digits : goal.digits_onto-magnitude-requires-clause-are_digits
digits_onto-magnitude-requires-clause-are_digits c = back_is c.args.bytes.now c.args.ends c.requires

pub digits_onto-magnitude-requires-clause-space : goal.digits_onto-magnitude-requires-clause-space
digits_onto-magnitude-requires-clause-space c = back_capacity c.args.bytes.now c.args.ends c.digits_onto-front.result c.requires c.if-precision-gt-MOST_DIGITS.false c.digits_onto-front.ensures.bound

pub decimal-requires-clause-small : goal.decimal-requires-clause-small
decimal-requires-clause-small c = small_number c.args.bytes.now c.args.ends c.digits_onto-front.result c.digits_onto-magnitude.result c.requires c.digits_onto-front.ensures.bound c.digits_onto-magnitude.ensures.bound

pub returns : goal.returns
returns c = representable c.args.bytes.now c.args.ends c.args.end c.byte_at-negative.result c.digits_onto-front.result c.digits_onto-magnitude.result _ c.requires c.if-ends-end.false c.if-precision-gt-MOST_DIGITS.false c.digits_onto-front.ensures.value c.digits_onto-magnitude.ensures.value c.byte_at-negative.ensures c.decimal.ensures

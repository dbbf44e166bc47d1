use Rattle.std.proofs.Common.{arith, refl}
use Rattle.jsonb_spec.specs.Parsing.Number.{digits_length}
use Rattle.text_scan.proofs.Numbers.Steps.{digits_go_on, digits_end_here, adds_digit}
use Rattle.text_scan.proofs.parser.number.digits_within.Goals as goal

pub overflow_mul-value : goal.overflow_mul-value
overflow_mul-value c =
    let i = c.digits.invariant in
    let digit = c.digit_of.ensures.digit c.if-digit_of-lt10.true in
    let step = adds_digit c.args.bytes.now c.digits.len c.digits.value _ (omega (arith, i.0, c.digits-test.true, c.requires.inside)) (omega (arith, c.digits-test.true, c.requires.few)) digit i.2 i.3 refl in
    omega (arith, step.fits)

pub overflow_add-value : goal.overflow_add-value
overflow_add-value c =
    let i = c.digits.invariant in
    let digit = c.digit_of.ensures.digit c.if-digit_of-lt10.true in
    let step = adds_digit c.args.bytes.now c.digits.len c.digits.value c.digit_of-in-digits.result (omega (arith, i.0, c.digits-test.true, c.requires.inside)) (omega (arith, c.digits-test.true, c.requires.few)) digit i.2 i.3 (c.digit_of-in-digits.ensures.value digit) in
    omega (arith, step.fits)

pub digits-preserved : goal.digits-preserved
digits-preserved c =
    let i = c.digits.invariant in
    let digit = c.digit_of.ensures.digit c.if-digit_of-lt10.true in
    let step = adds_digit c.args.bytes.now c.digits.len c.digits.value c.digit_of-in-digits.result (omega (arith, i.0, c.digits-test.true, c.requires.inside)) (omega (arith, c.digits-test.true, c.requires.few)) digit i.2 i.3 (c.digit_of-in-digits.ensures.value digit) in
    (omega (arith, c.digits-test.true), digits_go_on c.args.bytes.now c.digits.len (digits_length c.args.bytes.now) digit i.1, step.is_value, step.below)

pub returns-else-digit_of-lt10-clause-end : goal.returns-else-digit_of-lt10-clause-end
returns-else-digit_of-lt10-clause-end c below =
    digits_end_here c.args.bytes.now c.digits.len (digits_length c.args.bytes.now) (c.digit_of.ensures.other (omega (arith, c.if-digit_of-lt10.false))) c.digits.invariant.1

use Rattle.std.proofs.Common.{arith, ap}
use Rattle.std.specs.Str.Parse.{digits_value_after}
use Rattle.std.proofs.lemmas.Str.{digit_value_digit}
use Rattle.std.proofs.lemmas.Str.Parse.{digit_at}
use Rattle.std.proofs.lemmas.List.{take_all}
use Rattle.text_scan.proofs.Numbers.DigitValues.{value_after_step, value_after_more, value_after_lt}
use Rattle.text_scan.proofs.parser.extended_number.decimal.digits_onto.Goals as goal

pub overflow_mul-all : goal.overflow_mul-all
overflow_mul-all c =
    omega (arith, c.loop-digit.invariant, value_after_step c.args.number c.args.digits.now c.loop-digit.digit-index _ c.requires.are_digits (omega arith) c.requires.space)

pub overflow_sub-digit : goal.overflow_sub-digit
overflow_sub-digit c = omega (arith, digit_at c.args.digits.now c.loop-digit.digit-index c.requires.are_digits (omega arith))

pub overflow_add-all : goal.overflow_add-all
overflow_add-all c =
    let digit = digit_at c.args.digits.now c.loop-digit.digit-index c.requires.are_digits (omega arith) in
    omega (arith, c.from.ensures, digit_value_digit _ digit, digit, c.loop-digit.invariant, value_after_step c.args.number c.args.digits.now c.loop-digit.digit-index _ c.requires.are_digits (omega arith) c.requires.space)

pub loop-digit-preserved : goal.loop-digit-preserved
loop-digit-preserved c =
    let digit = digit_at c.args.digits.now c.loop-digit.digit-index c.requires.are_digits (omega arith) in
    omega (arith, c.from.ensures, digit_value_digit _ digit, digit, c.loop-digit.invariant, value_after_more 10 c.args.number c.args.digits.now c.loop-digit.digit-index (omega arith))

pub returns-clause-bound : goal.returns-clause-bound
returns-clause-bound c =
    omega (arith, c.loop-digit.invariant, ap (digits_value_after 10 c.args.number) (take_all c.loop-digit.digit-index c.args.digits.now (omega arith)), value_after_lt c.args.number c.args.digits.now c.requires.are_digits)

use Rattle.std.proofs.Common.{◌*◌, ◌+◌, ap, get_or, arith}
use Rattle.std.specs.Char.{digit_value}
use Rattle.text_scan.proofs.Numbers.DigitValues.{appended_none, all_digits_value, value_after_more}
use Rattle.text_scan.proofs.parser.number.number_after.Goals as goal

pub returns-in_err-number : goal.returns-in_err-number
returns-in_err-number c =
    appended_none c.args.base c.args.front c.requires _ c.args.digits.now c.loop-byte.byte-index c.loop-byte.number (omega arith) c.loop-byte.invariant.0 c.in_err-number.ensures c.from_residual.ensures

pub loop-byte-preserved : goal.loop-byte-preserved
loop-byte-preserved c =
    let digit = digit_value (get_or c.args.digits.now c.loop-byte.byte-index 0) in
    let next = ap (λ n. n * c.args.base + digit) c.loop-byte.invariant.0 in
    (omega (arith, c.in_ok-number.ensures, next, value_after_more c.args.base c.args.front c.args.digits.now c.loop-byte.byte-index (omega arith)), omega (arith, c.in_ok-number.ensures))

pub returns : goal.returns
returns c = all_digits_value c.args.base c.args.front c.args.digits.now c.loop-byte.byte-index c.loop-byte.number (omega arith) c.loop-byte.invariant.0 c.loop-byte.invariant.1

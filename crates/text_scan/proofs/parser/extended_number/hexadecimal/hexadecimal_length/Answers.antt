use Rattle.std.proofs.Common.{arith, ap, ◌<◌, drop, add-one}
use Rattle.std.specs.Prelude.{slice_index}
use Rattle.std.specs.Char.{digit_value}
use Rattle.jsonb_spec.specs.Parsing.ExtendedNumber.{hexadecimal_length}
use Rattle.text_scan.proofs.Numbers.HexadecimalValues.{length_more, length_stop}
use Rattle.text_scan.proofs.parser.extended_number.hexadecimal.hexadecimal_length.Goals as goal

pub digits-preserved : goal.digits-preserved
digits-preserved c =
    let h : digit_value (slice_index c.args.bytes.now c.digits.end) < 16 = omega (arith, c.digit.ensures, ap digit_value c.byte_at.ensures, c.digits-test.true) in
    let m = length_more c.args.bytes.now c.digits.end h in
    (omega (arith, m.1), omega (arith, c.digits.invariant.1, m.0, ap (λ i. hexadecimal_length (drop i c.args.bytes.now)) (add-one c.digits.end)))

pub returns-clause-value : goal.returns-clause-value
returns-clause-value c =
    omega (arith, c.digits.invariant.1, length_stop c.args.bytes.now c.digits.end (omega (arith, c.digit.ensures, ap digit_value c.byte_at.ensures, c.digits-test.false)))

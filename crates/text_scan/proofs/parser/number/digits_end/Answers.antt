use Rattle.std.proofs.Common.{arith, sym, ◌∙◌}
use Rattle.jsonb_spec.specs.Parsing.Number.{digits_from}
use Rattle.text_scan.proofs.Numbers.Steps.{digits_go_on, digits_end_here, digits_end_past}
use Rattle.text_scan.proofs.parser.number.digits_end.Goals as goal

pub digits-preserved : goal.digits-preserved
digits-preserved c =
    (omega arith, digits_go_on c.args.bytes.now c.digits.end (digits_from c.args.bytes.now c.args.start) (sym c.is_ascii_digit.ensures.value ∙ c.if-is_ascii_digit.true) c.digits.invariant.1)

pub returns-else-is_ascii_digit-clause-end : goal.returns-else-is_ascii_digit-clause-end
returns-else-is_ascii_digit-clause-end c =
    digits_end_here c.args.bytes.now c.digits.end (digits_from c.args.bytes.now c.args.start) (sym c.is_ascii_digit.ensures.value ∙ c.if-is_ascii_digit.false) c.digits.invariant.1

pub returns-after-digits-clause-end : goal.returns-after-digits-clause-end
returns-after-digits-clause-end c =
    digits_end_past c.args.bytes.now c.digits.end (digits_from c.args.bytes.now c.args.start) c.digits-test.false c.digits.invariant.1

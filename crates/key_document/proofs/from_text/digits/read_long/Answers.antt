use Rattle.std.proofs.Common.{sym, ◌∙◌}
use Rattle.key_document.proofs.Digits.{too_large}
use Rattle.key_document.proofs.from_text.digits.read_long.Goals as goal

pub returns-in_default-with_digit : goal.returns-in_default-with_digit
returns-in_default-with_digit c = record {
  read = λ small. too_large c.bytes.magnitude c.in-Some.byte.now c.bytes.rest.now c.in-Some.others.now c.args.bytes.now small c.bytes.invariant.magnitude_left c.in-Some.ensures.cases.0 (sym c.is_number_byte.ensures ∙ c.if-not-is_number_byte.false) c.in_default-with_digit.ensures;
}

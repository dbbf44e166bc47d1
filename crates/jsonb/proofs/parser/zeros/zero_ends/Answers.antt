use Rattle.std.proofs.Common.{sym, ◌∙◌}
use Rattle.jsonb.proofs.EndZeros.Marks.{digit_read, digits_over, no_more}
use Rattle.jsonb.proofs.parser.zeros.zero_ends.Goals as goal

pub returns-then-not-is_ascii_digit : goal.returns-then-not-is_ascii_digit
returns-then-not-is_ascii_digit c =
    sym (c.digits.invariant.same ∙ digits_over c.digits.last c.in-Some.byte.now c.digits.rest.now c.in-Some.others.now c.in-Some.ensures.cases.0 (sym c.is_ascii_digit.ensures.value ∙ c.if-not-is_ascii_digit.true))

pub digits-preserved : goal.digits-preserved
digits-preserved c = record {
  same = c.digits.invariant.same ∙ digit_read c.digits.last c.in-Some.byte.now c.digits.rest.now c.in-Some.others.now c.in-Some.ensures.cases.0 (sym c.is_ascii_digit.ensures.value ∙ c.if-not-is_ascii_digit.false);
}

pub returns : goal.returns
returns c = sym (c.digits.invariant.same ∙ no_more c.digits.last c.digits.rest.now c.in_default.ensures.cases)

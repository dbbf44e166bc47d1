use Rattle.std.proofs.Common.{rules, ◌∙◌, arith}
use Rattle.std.specs.Int.{w128}
use Rattle.std.proofs.lemmas.Int.{to_z-of_z}
use Rattle.key_document.proofs.Digits.{no_overflow, some_text, whole_is}
use Rattle.key_document.proofs.from_text.digits.number_of.Goals as goal

pub returns-in_default : goal.returns-in_default
returns-in_default c = record { number = λ n p more e d. absurd (omega (arith, some_text n p more c.args.bytes.now e, c.in_default.ensures.cases)) }

pub returns-in_default-with_sign : goal.returns-in_default-with_sign
returns-in_default-with_sign c = record {
  number = λ n p more e d. absurd (no_overflow n p more c.in-Some.first.now c.in-Some.field-0-1.now c.args.bytes.now c.args.digits.now.magnitude c.in-Some.ensures.cases.0 e d.magnitude c.in_default-with_sign.ensures);
}

pub returns : goal.returns
returns c = record {
  number = λ n p more e d. (
    c.decimal.ensures.scale ∙ d.scale,
    c.decimal.ensures.whole ∙ to_z-of_z w128 c.in-Some-with_sign.value (search rules) ∙ c.in-Some-with_sign.ensures ∙ whole_is n p more c.in-Some.first.now c.in-Some.field-0-1.now c.args.bytes.now c.args.digits.now.magnitude c.in-Some.ensures.cases.0 e d.magnitude,
  );
}

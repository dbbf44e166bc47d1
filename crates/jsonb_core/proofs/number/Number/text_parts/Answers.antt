use Rattle.std.proofs.Common.{arith, ap, length}
use Rattle.std.proofs.lemmas.Fmt.{decimal_is_IsNumeral_wide}
use Rattle.jsonb_spec.specs.Text.NumberText.{text_of_parts}
use Rattle.jsonb_core.proofs.number.Number.text_parts.Goals as goal

pub decimal_parts-requires-clause-some_digit : goal.decimal_parts-requires-clause-some_digit
decimal_parts-requires-clause-some_digit c =
    let m = c.sign_and_magnitude-negative.result.1 in
    omega (arith, (decimal_is_IsNumeral_wide m (omega arith)).0.0, ap length c.format.ensures.text)

pub returns-in-Decimal64-clause-text : goal.returns-in-Decimal64-clause-text
unfolding text_of_parts
returns-in-Decimal64-clause-text c =
    cc (c.decimal_parts.ensures.text, c.sign_and_magnitude-negative.ensures.sign, c.sign_and_magnitude-negative.ensures.magnitude, c.scale.ensures, c.format.ensures.text)

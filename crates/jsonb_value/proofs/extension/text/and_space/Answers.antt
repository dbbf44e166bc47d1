use Rattle.std.proofs.Common.{◌≡◌, ◌≢◌, length, ◌∙◌, arith}
use Rattle.std.proofs.lemmas.Bool.Decides.{nat_tests}
use Rattle.std.specs.Fmt.InlineText.{inline_text}
use Rattle.jsonb_value.proofs.Appending.IntervalTexts.{with_piece-none, with_piece-some}
use Rattle.jsonb_value.proofs.extension.text.and_space.Goals as goal

pub returns-then-is_empty : goal.returns-then-is_empty
returns-then-is_empty c =
    let none : length (inline_text c.args.text) ≡ 0 = grind (arith, nat_tests, c.as_str.ensures.value) in
    with_piece-none _ none

pub returns-else-is_empty : goal.returns-else-is_empty
returns-else-is_empty c =
    let some : length (inline_text c.args.text) ≢ 0 = grind (arith, nat_tests, c.as_str.ensures.value) in
    c.and.ensures ∙ with_piece-some _ some

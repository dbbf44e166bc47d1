use Rattle.std.proofs.Common.{◌++◌, ap, sym, ◌∙◌, append_assoc, append-nil}
use Rattle.std.specs.Fmt.{decimal}
use Rattle.std.specs.Fmt.InlineText.{inline_text}
use Rattle.jsonb_spec.specs.Text.NumberText.{zero_padded}
use Rattle.jsonb_value.proofs.Appending.IntervalTexts.{fraction_text-none, fraction_text-some}
use Rattle.jsonb_value.proofs.extension.text.and_fraction.Goals as goal

pub returns-then-micros-eq0 : goal.returns-then-micros-eq0
returns-then-micros-eq0 c =
    let text = inline_text c.args.text in
    sym (ap (λ t. text ++ t) (fraction_text-none c.args.micros c.if-micros-eq0.true) ∙ append-nil text)

pub returns-else-micros-eq0 : goal.returns-else-micros-eq0
returns-else-micros-eq0 c =
    let text = inline_text c.args.text in
    let digits = zero_padded 6 (decimal c.args.micros) in
    c.and_digits.ensures.text ∙ ap (λ t. t ++ digits) c.and.ensures ∙ append_assoc text _ digits
    ∙ sym (ap (λ t. text ++ t) (fraction_text-some c.args.micros c.if-micros-eq0.false))

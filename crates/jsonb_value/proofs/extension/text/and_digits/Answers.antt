use Rattle.std.proofs.Common.{◌≡◌, ◌-◌, ◌++◌, length, slice_range, replicate, codes, ap, ◌∙◌, append_assoc, arith}
use Rattle.std.specs.Fmt.{decimal}
use Rattle.std.specs.Fmt.InlineText.{inline_text}
use Rattle.jsonb_spec.specs.Text.NumberText.{zero_padded}
use Rattle.jsonb_value.proofs.Appending.IntervalTexts.{zeros_taken}
use Rattle.jsonb_value.proofs.extension.text.and_digits.Goals as goal

pub returns-clause-text : goal.returns-clause-text
unfolding zero_padded
returns-clause-text c =
    let missing = c.args.least - length (decimal c.args.number) in
    let zeros : c.range-zeros.result.now ≡ replicate missing 48 =
    c.range-zeros.ensures.value ∙ ap (λ k. slice_range (codes "000000") 0 k) (c.saturating_sub.ensures ∙ ap (λ ds. c.args.least - length ds) c.format-digits.ensures.text)
    ∙ zeros_taken missing (omega arith) in
    c.and-2.ensures ∙ ap (λ t. t ++ c.format-digits.result.now) (c.and.ensures ∙ ap (λ z. inline_text c.args.text ++ z) zeros)
    ∙ append_assoc (inline_text c.args.text) (replicate missing 48) c.format-digits.result.now ∙ ap (λ d. inline_text c.args.text ++ (replicate missing 48 ++ d)) c.format-digits.ensures.text

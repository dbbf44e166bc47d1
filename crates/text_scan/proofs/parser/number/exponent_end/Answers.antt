use Rattle.std.proofs.Common.{sym, ◌∙◌, ⊎_elim, inl, inr}
use Rattle.text_scan.proofs.Numbers.Steps.{no_exponent, exponent_bare, exponent_some}
use Rattle.text_scan.proofs.parser.number.exponent_end.Goals as goal

pub returns-then-mark-ne69-clause-end : goal.returns-then-mark-ne69-clause-end
returns-then-mark-ne69-clause-end c =
    sym (no_exponent c.args.bytes.now c.args.start (⊎_elim (λ e. c.if-mark-ne101.true (c.byte_at-mark.ensures ∙ e)) (λ e. c.if-mark-ne69.true (c.byte_at-mark.ensures ∙ e))))

pub returns-then-end-digits-clause-end : goal.returns-then-end-digits-clause-end
returns-then-end-digits-clause-end c =
    sym (exponent_bare c.args.bytes.now c.args.start c.sign_end-digits.result c.digits_end-end.result (⊎_elim (λ w. inr (sym c.byte_at-mark.ensures ∙ w.1)) (λ e. inl (sym c.byte_at-mark.ensures ∙ e)) c.else-mark-ne101.either) c.sign_end-digits.ensures.end c.digits_end-end.ensures.end c.if-end-digits.true)

pub returns-else-end-digits-clause-end : goal.returns-else-end-digits-clause-end
returns-else-end-digits-clause-end c =
    sym (exponent_some c.args.bytes.now c.args.start c.sign_end-digits.result c.digits_end-end.result (⊎_elim (λ w. inr (sym c.byte_at-mark.ensures ∙ w.1)) (λ e. inl (sym c.byte_at-mark.ensures ∙ e)) c.else-mark-ne101.either) c.sign_end-digits.ensures.end c.digits_end-end.ensures.end c.if-end-digits.false)

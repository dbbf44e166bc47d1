use Rattle.std.proofs.Common.{sym, ◌∙◌}
use Rattle.text_scan.proofs.Numbers.Steps.{no_fraction, fraction_bare, fraction_some}
use Rattle.text_scan.proofs.parser.number.fraction_end.Goals as goal

pub returns-then-byte_at-ne46-clause-end : goal.returns-then-byte_at-ne46-clause-end
returns-then-byte_at-ne46-clause-end c =
    sym (no_fraction c.args.bytes.now c.args.start (λ point. c.if-byte_at-ne46.true (c.byte_at.ensures ∙ point)))

pub returns-then-end-start-clause-end : goal.returns-then-end-start-clause-end
returns-then-end-start-clause-end c =
    sym (fraction_bare c.args.bytes.now c.args.start c.digits_end-end.result (sym c.byte_at.ensures ∙ c.if-byte_at-ne46.false) c.digits_end-end.ensures.end c.if-end-start.true)

pub returns-else-end-start-clause-end : goal.returns-else-end-start-clause-end
returns-else-end-start-clause-end c =
    sym (fraction_some c.args.bytes.now c.args.start c.digits_end-end.result (sym c.byte_at.ensures ∙ c.if-byte_at-ne46.false) c.digits_end-end.ensures.end c.if-end-start.false)

use Rattle.std.proofs.Common.{length, ap, eqb-true, sym, ◌∙◌}
use Rattle.key_document.proofs.part.append_part.Goals as goal

pub returns-then-is_empty-clause-answers : goal.returns-then-is_empty-clause-answers
returns-then-is_empty-clause-answers c = λ t r e.
    c.append_plain_part.ensures.answers t r (c.split_document.ensures.key t r e) (sym (ap length (c.split_document.ensures.zeros t r e)) ∙ eqb-true (length c.split_document.result.1.now) 0 (sym c.is_empty.ensures ∙ c.if-is_empty.true))

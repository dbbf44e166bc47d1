use Rattle.std.proofs.Common.{inl, inr, ◌∙◌}
use Rattle.key_edit.proofs.Merged.{first_of, is_last}
use Rattle.key_edit.proofs.merge.merge_step.Goals as goal

pub returns-then-is_end-clause-step : goal.returns-then-is_end-clause-step
returns-then-is_end-clause-step c = λ ms ns h i l r.
    is_last ms ns c.last_step.result c.last_step.ensures.0 (inl (c.if-is_end.ensures.end ms h l, c.last_step.ensures.1, c.last_step.ensures.2 ∙ r))

pub returns-then-is_end-2-clause-step : goal.returns-then-is_end-2-clause-step
returns-then-is_end-2-clause-step c = λ ms ns h i l r.
    is_last ms ns c.last_step-then-is_end-2.result c.last_step-then-is_end-2.ensures.0 (inr (c.if-is_end-2.ensures.end ns i r, c.last_step-then-is_end-2.ensures.1 ∙ l, c.last_step-then-is_end-2.ensures.2))

pub returns-clause-step : goal.returns-clause-step
returns-clause-step c = λ ms ns h i l r.
    let n = first_of ns (c.if-is_end-2.ensures.end ns i r) in
    c.next_step.ensures.step ms ns h i l n.0 n.1 n.2 n.3 r

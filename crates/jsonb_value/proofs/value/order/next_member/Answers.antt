use Rattle.jsonb_value.proofs.Order.FromBound.{next_of, ends_whole}
use Rattle.jsonb_value.proofs.value.order.next_member.Goals as goal

pub returns-clause-next : goal.returns-clause-next
returns-clause-next c = next_of (λ m. (m.0.now, m.1.now)) c.next.result _ _ c.range.result _ c.range.ensures.ordered (c.range.ensures.between tt) c.next.ensures.steps

pub returns-clause-ends : goal.returns-clause-ends
returns-clause-ends c = ends_whole _ _ c.range.ensures.ordered

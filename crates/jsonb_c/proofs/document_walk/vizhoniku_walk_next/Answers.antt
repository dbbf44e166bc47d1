use Rattle.std.proofs.Common.{Ok, ap, refl, subst}
use Rattle.jsonb_c.proofs.DocumentWalk.{never_next, next_met, none_met}
use Rattle.jsonb_c.proofs.document_walk.vizhoniku_walk_next.Goals as goal
use Rattle.jsonb_spec.specs.Document.Walk.{events_left}
use Rattle.key_document.specs.Walk.{MeetsNext}

pub returns-in-Ok-Some-clause-met : goal.returns-in-Ok-Some-clause-met
returns-in-Ok-Some-clause-met c = λ t d opens w.
    let walk = c.next_event.new.walk in
    next_met t (events_left opens) c.in-Ok-Some.met _ walk c.event_of.ensures
    (subst (λ answer. MeetsNext t (events_left opens) (Ok answer) walk) c.in-Ok-Some.field-0-is (c.in-Ok-Some.ensures.met t d.readable d.is_document opens w))

pub returns-in-Ok-None-clause-met : goal.returns-in-Ok-None-clause-met
returns-in-Ok-None-clause-met c = λ t d opens w.
    let walk = c.next_event.new.walk in
    none_met t (events_left opens) _ walk
    (subst (λ answer. MeetsNext t (events_left opens) (Ok answer) walk) c.in-Ok-None.field-0-is (c.in-Ok-None.ensures.met t d.readable d.is_document opens w))

pub returns-in-Ok-None-clause-still : goal.returns-in-Ok-None-clause-still
returns-in-Ok-None-clause-still c = λ h. (c.in-Ok-None.ensures.over (ap Ok c.in-Ok-None.field-0-is), refl)

pub returns-in-Err-clause-met : goal.returns-in-Err-clause-met
returns-in-Err-clause-met c = λ t d opens w. absurd (never_next t (events_left opens) _ c.next_event.new.walk (c.in-Err.ensures.met t d.readable d.is_document opens w))

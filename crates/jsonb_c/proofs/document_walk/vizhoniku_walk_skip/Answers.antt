use Rattle.std.proofs.Common.{Ok, ap, subst}
use Rattle.jsonb_c.proofs.DocumentWalk.{never_skips, skips, skips_none}
use Rattle.jsonb_c.proofs.document_walk.vizhoniku_walk_skip.Goals as goal
use Rattle.key_document.specs.Walk.{SkipsFirst}

pub returns-in-Ok-true-clause-skipped : goal.returns-in-Ok-true-clause-skipped
returns-in-Ok-true-clause-skipped c = λ t d opens w.
    let walk = c.skip_open.new.walk in
    skips t opens walk (subst (λ answer. SkipsFirst t opens (Ok answer) walk) c.in-Ok-true.field-0-test (c.in-Ok-true.ensures.skipped t d.readable d.is_document opens w))

pub returns-in-Ok-false-clause-skipped : goal.returns-in-Ok-false-clause-skipped
returns-in-Ok-false-clause-skipped c = λ t d opens w.
    let walk = c.skip_open.new.walk in
    skips_none t opens walk (subst (λ answer. SkipsFirst t opens (Ok answer) walk) c.in-Ok-false.field-0-test (c.in-Ok-false.ensures.skipped t d.readable d.is_document opens w))

pub returns-in-Ok-false-clause-still : goal.returns-in-Ok-false-clause-still
returns-in-Ok-false-clause-still c = λ h. c.in-Ok-false.ensures.none (ap Ok c.in-Ok-false.field-0-test)

pub returns-in-Err-clause-skipped : goal.returns-in-Err-clause-skipped
returns-in-Err-clause-skipped c = λ t d opens w. absurd (never_skips t opens _ c.skip_open.new.walk (c.in-Err.ensures.skipped t d.readable d.is_document opens w))

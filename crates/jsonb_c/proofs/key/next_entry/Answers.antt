use Rattle.std.proofs.Common.{[], Ok, subst}
use Rattle.key_walk.specs.Found.{IsNext}
use Rattle.jsonb_c.proofs.KeyParts.{kind_agrees, left_there, next_known, next_reported, none_next}
use Rattle.jsonb_c.proofs.key.next_entry.Goals as goal

pub returns-in_err-value-clause-next : goal.returns-in_err-value-clause-next
returns-in_err-value-clause-next c = λ left s.
    let back = left_there c.args.key.now c.args.cursor left c.split_at.result.1.now s c.split_at.ensures.back in
    absurd (next_known left _ (c.in_err-value.ensures.next left (kind_agrees left c.args.cursor.kind s.kind_is) s.fits [] back))

pub returns-in_default-clause-next : goal.returns-in_default-clause-next
returns-in_default-clause-next c = λ left s entry behind.
    let back = left_there c.args.key.now c.args.cursor left c.split_at.result.1.now s c.split_at.ensures.back in
    none_next c.args.key.now left entry behind
    (subst (λ answer. IsNext left [] (Ok answer)) c.in_default.is (c.in_ok-value.ensures.next left (kind_agrees left c.args.cursor.kind s.kind_is) s.fits [] back))

pub returns-clause-next : goal.returns-clause-next
returns-clause-next c = λ left s.
    let back = left_there c.args.key.now c.args.cursor left c.split_at.result.1.now s c.split_at.ensures.back in
    next_reported c.args.key.now c.args.cursor left c.split_at.result.1.now c.in-Some.value c.in-Some.others s back
    (subst (λ answer. IsNext left [] (Ok answer)) c.in-Some.is (c.in_ok-value.ensures.next left (kind_agrees left c.args.cursor.kind s.kind_is) s.fits [] back))

use Rattle.std.proofs.Common.{MatchOption, subst}
use Rattle.jsonb_c.specs.declared.key.Cursor.{Cursor}
use Rattle.jsonb_c.specs.declared.key.Entry.{Entry}
use Rattle.jsonb_c.specs.KeyParts.{IsNextPart}
use Rattle.jsonb_c.proofs.key.vizhoniku_key_next.Goals as goal

pub returns-in-Ok-Some-clause-next : goal.returns-in-Ok-Some-clause-next
returns-in-Ok-Some-clause-next c = λ left s.
    subst (λ answer. MatchOption answer ((entry : Entry) → (behind : Cursor) → IsNextPart c.args.key.now left 5 entry behind) (λ reported. IsNextPart c.args.key.now left 0 reported.0 reported.1)) c.in-Ok-Some.field-0-is (c.in-Ok-Some.ensures.next left s)

pub returns-in-Ok-None-clause-next : goal.returns-in-Ok-None-clause-next
returns-in-Ok-None-clause-next c = λ left s.
    let none = subst (λ answer. MatchOption answer ((entry : Entry) → (behind : Cursor) → IsNextPart c.args.key.now left 5 entry behind) (λ reported. IsNextPart c.args.key.now left 0 reported.0 reported.1)) c.in-Ok-None.field-0-is (c.in-Ok-None.ensures.next left s) in
    none (record { name_offset = 0; name_size = 0; offset = 0; size = 0 }) c.args.cursor.now

pub returns-in-Err-clause-next : goal.returns-in-Err-clause-next
returns-in-Err-clause-next c = λ left s. absurd (c.in-Err.ensures.next left s)

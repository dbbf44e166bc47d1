use Rattle.key_edit.proofs.Merged.{ended_none}
use Rattle.key_edit.proofs.merge.is_end.Goals as goal

pub returns-in-Some : goal.returns-in-Some
returns-in-Some c = record { end = λ ms h e. ended_none ms c.args.members.now c.in-Some.field-0.now h e c.in-Some.ensures.some }

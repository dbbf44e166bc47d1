use Rattle.std.proofs.Common.{map, ap, subst}
use Rattle.std.specs.Prelude.{MatchOption}
use Rattle.jsonb.specs.Held.{key_held}
use Rattle.jsonb_spec.specs.Parsing.Container.{object_or_fault}
use Rattle.jsonb_spec.specs.Source.{object_source_of}
use Rattle.text_members.specs.OpenMembers.{ReportsRepeatOf}
use Rattle.text_write.specs.CheckSink.{CheckEnds}
use Rattle.jsonb.proofs.parser.handler.check.CheckedPartHandler.finish.Goals as goal

pub returns-in-Ok-None-clause-ended : goal.returns-in-Ok-None-clause-ended
returns-in-Ok-None-clause-ended g c = λ text front key k offset fs cs rest held.
    let sink = c.end_object.new.self in
    let ends = subst (λ o. MatchOption o (CheckEnds text sink front (map key_held fs) cs) (ReportsRepeatOf sink.members front)) c.in-Ok-None.field-0-is (c.in-Ok-None.ensures.holds text (map key_held fs) front k offset cs held) in
    (object_source_of front, ends.filled, ap (λ o. object_or_fault o front rest) ends.new_keys)

pub returns-in-Ok-Some-clause-ended : goal.returns-in-Ok-Some-clause-ended
returns-in-Ok-Some-clause-ended g c = λ text front key k offset fs cs rest held.
    let sink = c.end_object.new.self in
    let repeat = subst (λ o. MatchOption o (CheckEnds text sink front (map key_held fs) cs) (ReportsRepeatOf sink.members front)) c.in-Ok-Some.field-0-is (c.in-Ok-Some.ensures.holds text (map key_held fs) front k offset cs held) in
    c.report_repeat.ensures front rest repeat

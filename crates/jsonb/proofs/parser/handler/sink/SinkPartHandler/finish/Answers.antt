use Rattle.std.proofs.Common.{true, map, ap, subst, sym}
use Rattle.std.specs.Prelude.{MatchOption}
use Rattle.jsonb.specs.Held.{held_by}
use Rattle.jsonb_spec.specs.Parsing.Container.{object_or_fault}
use Rattle.jsonb_spec.specs.Source.{first_repeat, object_source_of, spot_of}
use Rattle.text_members.specs.OpenMembers.{EndsObject, ReportsRepeatOf}
use Rattle.text_parse.proofs.Steps.Failures.{reports_always}
use Rattle.jsonb.proofs.parser.handler.sink.SinkPartHandler.finish.Goals as goal

pub returns-in-Ok-None-clause-ended : goal.returns-in-Ok-None-clause-ended
returns-in-Ok-None-clause-ended g c = λ text front key k offset fs cs rest holds.
    let sink = c.end_object.new.self in
    let held = map (held_by g.S.Sink.array g.S.Sink.object) fs in
    let ends = subst (λ o. MatchOption o (EndsObject (g.S.Sink.filled text) sink front held cs) (ReportsRepeatOf (g.S.Sink.opened sink) front)) c.in-Ok-None.field-0-is (c.in-Ok-None.ensures.holds text held front k offset cs holds) in
    (object_source_of front, ends.filled, ap (λ o. object_or_fault o front rest) ends.new_keys)

pub returns-in-Ok-Some-clause-ended : goal.returns-in-Ok-Some-clause-ended
returns-in-Ok-Some-clause-ended g c = λ text front key k offset fs cs rest holds.
    let sink = c.end_object.new.self in
    let held = map (held_by g.S.Sink.array g.S.Sink.object) fs in
    let repeat = subst (λ o. MatchOption o (EndsObject (g.S.Sink.filled text) sink front held cs) (ReportsRepeatOf (g.S.Sink.opened sink) front)) c.in-Ok-Some.field-0-is (c.in-Ok-Some.ensures.holds text held front k offset cs holds) in
    let there = subst (λ ms. ReportsRepeatOf ms front c.in-Ok-Some.repeat) (sym c.open_members.ensures) repeat in
    reports_always true c.report_repeat.new.reported (object_or_fault (first_repeat (map spot_of front)) front rest) (c.report_repeat.ensures front rest there)

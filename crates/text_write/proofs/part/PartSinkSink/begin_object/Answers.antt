use Rattle.std.proofs.Common.{None, [], map, refl}
use Rattle.jsonb_spec.specs.Source.Open.{members_so_far}
use Rattle.text_write.specs.PartSink.{check_held, object_held}
use Rattle.text_write.proofs.PartSinks.{begun_in, object_begun_around}
use Rattle.text_write.proofs.part.PartSinkSink.begin_object.Goals as goal

pub returns-then-not-is_written-clause-holds : goal.returns-then-not-is_written-clause-holds
returns-then-not-is_written-clause-holds c =
    λ text held cs key offset sink.
    object_begun_around (record { first = c.begin_object.result; level = c.args.self.now.due }) key offset c.if-not-is_written.ensures refl (c.begin_object.ensures.holds text (map check_held held) cs key offset) sink

pub returns-clause-holds : goal.returns-clause-holds
returns-clause-holds c =
    λ text held cs key offset sink.
    begun_in (object_held (record { first = c.in_ok-first.first; level = None })) (members_so_far [] key offset) c.in_ok-self.field-0 c.in_ok-self.ensures
    (λ hs ds. c.in_ok-first.ensures.holds text hs ds key offset) sink c.if-not-is_written.ensures

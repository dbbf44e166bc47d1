use Rattle.std.proofs.Common.{◌≡◌, ◌<◌, rules}
use Rattle.jsonb_spec.specs.Source.Open.{elements_so_far}
use Rattle.jsonb_spec.specs.Source.{array_source_of}
use Rattle.text_write.specs.PartSink.{array_held}
use Rattle.text_write.proofs.PartSinks.{array_ended, ends_in}
use Rattle.text_members.proofs.Outcomes.{on_ok}
use Rattle.text_write.proofs.part.PartSinkSink.end_array.Goals as goal

pub returns-then-self-eq0-clause-holds : goal.returns-then-self-eq0-clause-holds
returns-then-self-eq0-clause-holds c =
    let none : c.args.self.now.inside ≡ 0 = search rules in
    λ text held ss cs sink. array_ended c.args.items.now ss none sink

pub returns-clause-holds : goal.returns-clause-holds
returns-clause-holds c =
    let some : 0 < c.args.self.now.inside = search rules in
    on_ok c.end_inner.result c.end_inner.ensures.holds (λ ends text held ss cs sink.
    ends text (array_source_of ss) held cs (ends_in (array_held c.args.items.now) (elements_so_far ss) (array_source_of ss) some
    (λ hs ds. c.in_ok-end_array.ensures.holds text hs ss ds) sink))

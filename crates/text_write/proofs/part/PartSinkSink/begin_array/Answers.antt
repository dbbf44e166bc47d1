use Rattle.std.proofs.Common.{[], ◌∷◌, ◌∙◌, false, subst, sym}
use Rattle.text_write.specs.TextSink.{TextHolds, items}
use Rattle.jsonb_spec.specs.Source.Open.{elements_so_far}
use Rattle.text_write.specs.PartSink.{array_held}
use Rattle.text_write.proofs.PartSinks.{array_begun, begun_in}
use Rattle.text_write.proofs.part.PartSinkSink.begin_array.Goals as goal

pub returns-then-not-is_written-clause-holds : goal.returns-then-not-is_written-clause-holds
returns-then-not-is_written-clause-holds c =
    λ text held cs sink. array_begun c.new.result c.if-not-is_written.ensures c.new.ensures.level (c.new.ensures.ahead ∙ c.index_ahead-ahead.ensures) sink

pub returns-clause-holds : goal.returns-clause-holds
returns-clause-holds c =
    λ text held cs sink.
    begun_in (array_held c.new-2.result) (elements_so_far []) c.in_ok-self.field-0 c.in_ok-self.ensures
    (λ hs ds holds. subst (λ b. TextHolds text c.begin_array.new.self false (items b ∷ hs) (elements_so_far [] ∷ ds)) (sym c.new-2.ensures.first) (c.in_ok-is_first.ensures.holds text hs ds holds)) sink c.if-not-is_written.ensures

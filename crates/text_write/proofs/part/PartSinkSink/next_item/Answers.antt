use Rattle.std.proofs.Common.{◌≡◌, ◌<◌, true, false, rules}
use Rattle.jsonb_spec.specs.Source.Open.{elements_so_far}
use Rattle.text_write.specs.PartSink.{array_held}
use Rattle.text_write.proofs.PartSinks.{goes_on_in, item_due}
use Rattle.text_members.proofs.Outcomes.{on_ok}
use Rattle.text_write.proofs.part.PartSinkSink.next_item.Goals as goal

pub returns-then-self-gt0-clause-holds : goal.returns-then-self-gt0-clause-holds
returns-then-self-gt0-clause-holds c =
    let some : 0 < c.args.self.now.inside = search rules in
    let f = c.args.items.now in
    on_ok c.next_item.result c.next_item.ensures.holds (λ holds text held ss cs sink.
    goes_on_in (array_held f) (array_held (record { is_first = c.next_item.new.is_first; is_ahead = f.is_ahead; is_on_path = f.is_on_path; ahead = f.ahead; level = f.level })) (elements_so_far ss) (elements_so_far ss) false true some
    (λ hs ds. holds text hs ss ds) sink)

pub returns-clause-holds : goal.returns-clause-holds
returns-clause-holds c =
    let none : c.args.self.now.inside ≡ 0 = search rules in
    λ text held ss cs sink. item_due c.args.items.now ss c.item_level-self.result none (c.item_level-self.ensures ss cs) sink

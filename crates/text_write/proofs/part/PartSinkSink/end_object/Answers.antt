use Rattle.std.proofs.Common.{◌≡◌, ◌<◌, true, false, map, rules}
use Rattle.std.specs.Option.{is_none}
use Rattle.jsonb_spec.specs.Source.Open.{members_so_far}
use Rattle.jsonb_spec.specs.Source.{object_source_of}
use Rattle.text_write.specs.PartSink.{check_held, object_held}
use Rattle.text_write.proofs.PartSinks.{ended_in, ends_in, new_in, reported_around, reported_in}
use Rattle.text_write.proofs.part.PartSinkSink.end_object.Goals as goal

pub returns-then-self-eq0-clause-holds : goal.returns-then-self-eq0-clause-holds
returns-then-self-eq0-clause-holds c =
    λ text held fs key offset cs sink.
    reported_around c.end_object.new.self c.in_ok-around.around c.args.members.now fs key offset c.if-self-eq0.true (λ holds_so. c.in_ok-around.ensures.holds text (map check_held held) fs key offset cs holds_so) sink

pub returns-in_ok-end_inner-clause-holds : goal.returns-in_ok-end_inner-clause-holds
returns-in_ok-end_inner-clause-holds c =
    let some : 0 < c.args.self.now.inside = search rules in
    let none : is_none c.in_ok-repeat.repeat ≡ true = search rules in
    let f = c.args.members.now in
    λ text held fs key offset cs sink.
    let ended = new_in c.in_ok-repeat.repeat f fs key offset some none (λ hs ds. c.in_ok-repeat.ensures.holds text hs fs key offset ds) sink in
    ended_in fs c.in_ok-repeat.repeat _ none
    (c.in_ok-end_inner.ensures.holds text (object_source_of fs) held cs (ends_in (object_held f) (members_so_far fs key offset) (object_source_of fs) some ended.0 sink)) ended.1

pub returns-else-is_none-clause-holds : goal.returns-else-is_none-clause-holds
returns-else-is_none-clause-holds c =
    let some : 0 < c.args.self.now.inside = search rules in
    let other : is_none c.in_ok-repeat.repeat ≡ false = search rules in
    λ text held fs key offset cs sink. reported_in c.end_object-2.new.self _ c.in_ok-repeat.repeat c.args.members.now fs key offset some other (λ hs ds. c.in_ok-repeat.ensures.holds text hs fs key offset ds) sink

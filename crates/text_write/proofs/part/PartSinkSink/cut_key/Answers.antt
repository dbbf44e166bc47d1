use Rattle.std.proofs.Common.{◌≡◌, ◌<◌, true, false, map, rules}
use Rattle.jsonb_spec.specs.Source.Open.{members_so_far}
use Rattle.jsonb_spec.specs.Tree.Mark.{plain}
use Rattle.text_write.specs.PartSink.{check_held, object_held}
use Rattle.text_write.proofs.PartSinks.{goes_on_in, member_due}
use Rattle.text_members.proofs.Outcomes.{on_ok}
use Rattle.text_write.proofs.part.PartSinkSink.cut_key.Goals as goal

pub returns-then-self-gt0-clause-holds : goal.returns-then-self-gt0-clause-holds
returns-then-self-gt0-clause-holds c =
    let some : 0 < c.args.self.now.inside = search rules in
    let f = c.args.members.now in
    on_ok c.cut_key.result c.cut_key.ensures.holds (λ holds text held fs k offset cs sink there plainly.
    goes_on_in (object_held f) (object_held f) (members_so_far fs k offset) (members_so_far fs (plain, c.args.key.now) c.args.after) false true some
    (λ hs ds holds_so. holds text hs fs k offset ds holds_so there plainly) sink)

pub returns-clause-holds : goal.returns-clause-holds
returns-clause-holds c =
    let none : c.args.self.now.inside ≡ 0 = search rules in
    on_ok c.cut_key-2.result c.cut_key-2.ensures.holds (λ holds text held fs k offset cs sink there plainly.
    member_due c.args.members.now fs k (plain, c.args.key.now) offset c.args.after c.follow-self.result none c.follow-self.ensures
    (λ holds_so. holds text (map check_held held) fs k offset cs holds_so there) sink)

use Rattle.std.proofs.Common.{◌≡◌, ◌<◌, ◌∷◌, ◌++◌, [], rules}
use Rattle.jsonb_spec.specs.Source.Open.{members_so_far}
use Rattle.jsonb_spec.specs.Source.{found_member}
use Rattle.text_write.specs.PartSink.{object_held}
use Rattle.text_write.proofs.PartSinks.{member_put, put_in}
use Rattle.text_write.proofs.part.PartSinkSink.insert_inner.Goals as goal

pub returns-then-self-gt0-clause-holds : goal.returns-then-self-gt0-clause-holds
returns-then-self-gt0-clause-holds c =
    let some : 0 < c.args.self.now.inside = search rules in
    λ text s held fs k offset cs next other filled.
    let f = c.args.members.now in
    put_in (object_held f) (object_held f) (members_so_far fs k offset) (members_so_far (fs ++ found_member k s offset ∷ []) next other) some
    (λ hs ds. c.insert_inner.ensures.holds text s hs fs k offset ds next other) filled

pub returns-else-self-gt0-clause-holds : goal.returns-else-self-gt0-clause-holds
returns-else-self-gt0-clause-holds c =
    let none : c.args.self.now.inside ≡ 0 = search rules in
    λ text s held fs k offset cs next other filled. member_put c.args.members.now fs k next offset other s none filled

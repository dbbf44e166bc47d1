use Rattle.std.proofs.Common.{◌≡◌, ◌<◌, ◌∷◌, ◌++◌, [], rules}
use Rattle.jsonb_spec.specs.Source.Open.{elements_so_far}
use Rattle.text_write.specs.PartSink.{array_held}
use Rattle.text_write.proofs.PartSinks.{item_put, put_in}
use Rattle.text_write.proofs.part.PartSinkSink.push_inner.Goals as goal

pub returns-then-self-gt0-clause-holds : goal.returns-then-self-gt0-clause-holds
returns-then-self-gt0-clause-holds c =
    let some : 0 < c.args.self.now.inside = search rules in
    λ text s held ss cs filled.
    let f = c.args.items.now in
    put_in (array_held f) (array_held (record { is_first = c.push_inner.new.is_first; is_ahead = f.is_ahead; is_on_path = f.is_on_path; ahead = f.ahead; level = f.level })) (elements_so_far ss) (elements_so_far (ss ++ s ∷ [])) some
    (λ hs ds. c.push_inner.ensures.holds text s hs ss ds) filled

pub returns-clause-holds : goal.returns-clause-holds
returns-clause-holds c =
    let none : c.args.self.now.inside ≡ 0 = search rules in
    λ text s held ss cs filled.
    item_put c.args.items.now c.pass.new.self ss s none c.pass.ensures.level c.pass.ensures.ahead filled

use Rattle.std.proofs.Common.{◌≡◌, ◌-◌, refl, rules}
use Rattle.text_write.proofs.PartSinks.{inner_ends}
use Rattle.text_members.proofs.Outcomes.{on_ok}
use Rattle.text_write.proofs.part.PartSink.end_inner.Goals as goal

pub returns-then-self-eq1-clause-holds : goal.returns-then-self-eq1-clause-holds
returns-then-self-eq1-clause-holds c =
    let one : c.args.self.now.inside ≡ 1 = search rules in
    on_ok c.finish.result c.finish.ensures.holds (λ ends text s held cs inner. ends text s held cs inner one)

pub returns-clause-holds : goal.returns-clause-holds
returns-clause-holds c =
    let others : c.args.self.now.inside ≡ 1 → ⊥ = search rules in
    λ text s held cs inner. inner_ends (c.args.self.now.inside - 1) others refl inner

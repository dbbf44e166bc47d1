use Rattle.std.proofs.Common.{rules}
use Rattle.std.specs.Int.{w128}
use Rattle.std.specs.Prelude.{FitsSigned}
use Rattle.std.proofs.lemmas.Int.{to_z-of_z}
use Rattle.jsonb_core.proofs.Numbers.Nearest.{nearest_answer}
use Rattle.jsonb_core.proofs.number.Number.to_i128.Goals as goal

pub returns-clause-nearest : goal.returns-clause-nearest
returns-clause-nearest c =
    let fits : FitsSigned w128 c.with_sign.result = search rules in
    λ n. rw to_z-of_z (nearest_answer _ _ _ _ _ _ _ c.sign_and_magnitude-negative.ensures.sign c.sign_and_magnitude-negative.ensures.magnitude c.scale.ensures c.rounded_quotient.ensures c.with_sign.ensures n)

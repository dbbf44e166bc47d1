use Rattle.std.proofs.Common.{arith, refl}
use Rattle.jsonb_core.proofs.Numbers.Nearest.{exact_le}
use Rattle.jsonb_core.proofs.number.Number.as_i128.Goals as goal

pub with_sign-requires-clause-at_most : goal.with_sign-requires-clause-at_most
with_sign-requires-clause-at_most c =
    omega (arith, exact_le _ _ c.scale.result ((c.in_ok-quotient.ensures c.in_ok-quotient.quotient).0 refl))

pub with_sign-requires-clause-positive : goal.with_sign-requires-clause-positive
with_sign-requires-clause-positive c = λ sign.
    omega (arith, exact_le _ _ c.scale.result ((c.in_ok-quotient.ensures c.in_ok-quotient.quotient).0 refl), c.sign_and_magnitude-negative.ensures.positive_bound sign)

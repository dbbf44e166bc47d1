use Rattle.jsonb.proofs.Modes.ExactValues.{exact_sign, exact_value}
use Rattle.jsonb.proofs.laws.exponents_are_exact.Goals as goal

pub returns-clause-sign : goal.returns-clause-sign
returns-clause-sign c = exact_sign

pub returns-clause-value : goal.returns-clause-value
returns-clause-value c = exact_value

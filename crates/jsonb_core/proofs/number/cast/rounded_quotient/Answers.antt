use Rattle.std.proofs.Common.{arith}
use Rattle.jsonb_core.proofs.Numbers.Quotients.{rounded_by}
use Rattle.jsonb_core.proofs.number.cast.rounded_quotient.Goals as goal

pub returns-in-Some : goal.returns-in-Some
returns-in-Some c =
    rounded_by c.args.magnitude c.in-Some.power c.args.scale _ c.in-Some.ensures.some.0 (omega (arith, c.in-Some.ensures.some)) c.from.ensures

use Rattle.jsonb_core.proofs.Numbers.Quotients.{some_quotient}
use Rattle.jsonb_core.proofs.number.cast.exact_quotient.Goals as goal

pub returns-in-Some : goal.returns-in-Some
returns-in-Some c = some_quotient c.args.magnitude _ c.args.scale c.in-Some.ensures.some.0 c.if-magnitude-power-eq0.true

use Rattle.std.proofs.Common.{rules}
use Rattle.std.specs.Int.{w128}
use Rattle.std.specs.Prelude.{FitsSigned}
use Rattle.std.proofs.lemmas.Int.{to_z-of_z}
use Rattle.jsonb_core.specs.View.{number_view}
use Rattle.jsonb_spec.specs.Number.Cast.{HasValue}
use Rattle.jsonb_core.proofs.Numbers.Narrowed.{unsigned_none, unsigned_some}
use Rattle.jsonb_core.proofs.number.Number.as_u64.Goals as goal

pub returns-in_err-as_i128 : goal.returns-in_err-as_i128
returns-in_err-as_i128 c =
    unsigned_none (HasValue (number_view c.args.self.now)) _ c.in_err-as_i128.ensures c.from_residual.ensures

pub returns : goal.returns
returns c =
    let fits : FitsSigned w128 c.in_ok-as_i128.field-0 = search rules in
    unsigned_some (HasValue (number_view c.args.self.now)) _ _ _ _ c.in_ok-as_i128.ensures (to_z-of_z w128 c.in_ok-as_i128.field-0 fits) c.try_from.ensures c.ok.ensures.value

use Rattle.std.proofs.Common.{rules}
use Rattle.std.specs.Int.{w128}
use Rattle.std.specs.Prelude.{FitsSigned}
use Rattle.std.proofs.lemmas.Int.{to_z-of_z}
use Rattle.jsonb_core.specs.View.{number_view}
use Rattle.jsonb_spec.specs.Number.Cast.{HasNearest}
use Rattle.jsonb_core.proofs.Numbers.Narrowed.{unsigned_none, unsigned_some}
use Rattle.jsonb_core.proofs.number.Number.to_u64.Goals as goal

pub returns-in_err-to_i128 : goal.returns-in_err-to_i128
returns-in_err-to_i128 c =
    unsigned_none (HasNearest (number_view c.args.self.now)) _ c.in_err-to_i128.ensures.nearest c.from_residual.ensures

pub returns : goal.returns
returns c =
    let fits : FitsSigned w128 c.in_ok-to_i128.field-0 = search rules in
    unsigned_some (HasNearest (number_view c.args.self.now)) _ _ _ _ c.in_ok-to_i128.ensures.nearest (to_z-of_z w128 c.in_ok-to_i128.field-0 fits) c.try_from.ensures c.ok.ensures.value

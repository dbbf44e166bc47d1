use Rattle.std.proofs.Common.{◌∙◌, rules, arith, FitsSigned}
use Rattle.std.proofs.lemmas.Int.{to_z-of_z}
use Rattle.std.specs.Int.{w128}
use Rattle.jsonb_core.proofs.Numbers.Scaling.{scaled_more, too_large_more}
use Rattle.jsonb_core.proofs.number.order.scaled_up.Goals as goal

pub returns-in_err-scaled : goal.returns-in_err-scaled
returns-in_err-scaled c =
    let fits : FitsSigned w128 c.args.value = search rules in
    let so_far = simp to_z-of_z at c.digits.invariant in
    rw c.from_residual.ensures (too_large_more c.args.value _ c.digits.counter c.args.digits (omega arith) so_far c.in_err-scaled.ensures)

pub digits-preserved : goal.digits-preserved
digits-preserved c =
    let fits : FitsSigned w128 c.args.value = search rules in
    let scaled_fits : FitsSigned w128 c.in_ok-scaled.scaled = search rules in
    let so_far = simp to_z-of_z at c.digits.invariant in
    simp to_z-of_z (c.in_ok-scaled.ensures.1 ∙ scaled_more c.args.value _ c.digits.counter so_far)

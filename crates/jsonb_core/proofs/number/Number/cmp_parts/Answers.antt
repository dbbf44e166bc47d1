use Rattle.std.proofs.Common.{◌∙◌, ap, arith, rules, FitsSigned}
use Rattle.std.proofs.lemmas.Int.{to_z-of_z}
use Rattle.std.specs.Int.{w128}
use Rattle.std.specs.Ordering.{ordering_reverse}
use Rattle.jsonb_spec.specs.Order.{decimal_cmp}
use Rattle.jsonb_core.proofs.Numbers.Scaling.{decimal_cmp-raised, decimal_cmp-lowered}
use Rattle.jsonb_core.proofs.number.Number.cmp_parts.Goals as goal

pub returns-then-a_scale-b_scale : goal.returns-then-a_scale-b_scale
returns-then-a_scale-b_scale c =
    let a = c.parts-a in
    let b = c.parts-b in
    let a_fits : FitsSigned w128 a.result.0 = search rules in
    let b_fits : FitsSigned w128 b.result.0 = search rules in
    simp to_z-of_z at c.cmp_scaled.ensures ∙ decimal_cmp-raised a.result.0 b.result.0 a.result.1 b.result.1 (omega arith)
    ∙ (λ i. decimal_cmp (a.ensures.whole i) (a.ensures.scale i) (b.ensures.whole i) (b.ensures.scale i))

pub returns-else-a_scale-b_scale : goal.returns-else-a_scale-b_scale
returns-else-a_scale-b_scale c =
    let a = c.parts-a in
    let b = c.parts-b in
    let a_fits : FitsSigned w128 a.result.0 = search rules in
    let b_fits : FitsSigned w128 b.result.0 = search rules in
    c.reverse.ensures ∙ ap ordering_reverse (simp to_z-of_z at c.cmp_scaled-else-a_scale-b_scale.ensures)
    ∙ decimal_cmp-lowered a.result.0 b.result.0 a.result.1 b.result.1 (omega arith)
    ∙ (λ i. decimal_cmp (a.ensures.whole i) (a.ensures.scale i) (b.ensures.whole i) (b.ensures.scale i))

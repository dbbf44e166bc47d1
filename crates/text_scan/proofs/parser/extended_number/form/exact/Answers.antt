use Rattle.std.proofs.Common.{ap, ◌∙◌, inl, inr, ⊎_elim, arith, rules, ◌⊎◌, ◌<◌, ◌≤◌, ◌^◌}
use Rattle.std.specs.Prelude.{FitsSigned}
use Rattle.std.specs.Int.{w128}
use Rattle.std.proofs.lemmas.Int.{to_z-of_z}
use Rattle.jsonb_spec.specs.Tree.{decimal128}
use Rattle.text_scan.proofs.Numbers.Forms.{exact_whole, exact_short, exact_long}
use Rattle.text_scan.proofs.parser.extended_number.form.exact.Goals as goal

pub returns-then-scale-eq0 : goal.returns-then-scale-eq0
returns-then-scale-eq0 c = exact_whole _ c.args.scale c.args.magnitude c.args.negative c.if-scale-eq0.true c.requires.1 c.integer.ensures

pub returns-then-magnitude-lt-PAST_DECIMAL64 : goal.returns-then-magnitude-lt-PAST_DECIMAL64
returns-then-magnitude-lt-PAST_DECIMAL64 c = exact_short _ c.args.scale c.args.magnitude c.args.negative c.if-scale-le-DECIMAL64_DIGITS.true c.if-magnitude-lt-PAST_DECIMAL64.true c.short_decimal.ensures

pub returns : goal.returns
returns c =
    let wide : FitsSigned w128 c.with_sign.result = search rules in
    let many : (18 < c.args.scale) ⊎ (10 ^ 18 ≤ c.args.magnitude) = ⊎_elim (λ both. inr (omega (arith, both.1))) (λ high. inl (omega (arith, high))) c.else-scale-le-DECIMAL64_DIGITS.either in
    ap (λ z. record { form = decimal128; scale = c.args.scale; whole = z }) (to_z-of_z w128 c.with_sign.result wide ∙ c.with_sign.ensures) ∙ exact_long c.args.scale c.args.magnitude c.args.negative c.if-scale-eq0.false many

use Rattle.std.proofs.Common.{arith, ap, ◌∙◌, rules}
use Rattle.std.specs.Prelude.{FitsSigned}
use Rattle.std.specs.Int.{w128}
use Rattle.std.proofs.lemmas.Int.{to_z-of_z}
use Rattle.jsonb_spec.specs.Number.Signed.{signed_by}
use Rattle.jsonb_spec.specs.Tree.{decimal128}
use Rattle.text_scan.proofs.Numbers.Forms.{below_power, form_scaled_wide}
use Rattle.text_scan.proofs.parser.extended_number.form.decimal.Goals as goal

pub integer-requires : goal.integer-requires
integer-requires c = below_power c.args.precision 38 c.args.magnitude c.requires.few.1 c.requires.small

pub short_decimal-requires : goal.short_decimal-requires
short_decimal-requires c =
    (omega (arith, c.requires.few, c.if-precision-le-DECIMAL64_DIGITS.true), below_power c.args.precision 18 c.args.magnitude c.if-precision-le-DECIMAL64_DIGITS.true c.requires.small)

pub with_sign-requires : goal.with_sign-requires
with_sign-requires c = omega (arith, below_power c.args.precision 38 c.args.magnitude c.requires.few.1 c.requires.small)

pub returns : goal.returns
returns c =
    let wide : FitsSigned w128 c.with_sign.result = search rules in
    ap (λ z. record { form = decimal128; scale = c.args.scale; whole = z }) (to_z-of_z w128 c.with_sign.result wide ∙ c.with_sign.ensures)
    ∙ form_scaled_wide c.args.scale c.args.precision (signed_by c.args.negative c.args.magnitude) c.if-scale-eq0.false c.if-precision-le-DECIMAL64_DIGITS.false

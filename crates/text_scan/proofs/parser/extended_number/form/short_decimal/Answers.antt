use Rattle.std.proofs.Common.{arith, sym, ap, ◌∙◌, subst, rules}
use Rattle.std.specs.Prelude.{FitsSigned}
use Rattle.std.specs.Int.{w64, w128, cast_signed, cast_unsigned}
use Rattle.std.proofs.lemmas.Int.{to_z-of_z}
use Rattle.jsonb_spec.specs.Number.Signed.{signed_by}
use Rattle.jsonb_spec.specs.Tree.{decimal64}
use Rattle.text_scan.proofs.Numbers.Forms.{form_scaled}
use Rattle.text_scan.proofs.parser.extended_number.form.short_decimal.Goals as goal
use Rattle.jsonb_core.proofs.Numbers.InRange.{small_signed}

pub overflow_cast-result : goal.overflow_cast-result
overflow_cast-result c = omega (arith, c.requires)

pub returns : goal.returns
returns c = λ precision few small.
    let wide : FitsSigned w128 c.with_sign.result = search rules in
    let same = to_z-of_z w128 c.with_sign.result wide in
    let signed = c.with_sign.ensures ∙ ap (signed_by c.args.negative) c.from.ensures in
    let fits : FitsSigned w64 c.with_sign.result = subst (FitsSigned w64) (sym signed) (small_signed c.args.negative c.args.magnitude c.requires.1) in
    ap (λ z. record { form = decimal64; scale = c.args.scale; whole = z }) (ap (λ x. cast_signed w64 (cast_unsigned w64 x)) same ∙ (to_z-of_z w64 c.with_sign.result fits ∙ signed))
    ∙ form_scaled c.args.scale precision (signed_by c.args.negative c.args.magnitude) c.if-scale-eq0.false few

use Rattle.std.proofs.Common.{arith, ap, ◌∙◌, rules}
use Rattle.std.specs.Prelude.{FitsSigned}
use Rattle.std.specs.Int.{w128}
use Rattle.std.proofs.lemmas.Int.{to_z-of_z}
use Rattle.jsonb_spec.specs.Tree.{decimal128}
use Rattle.text_scan.proofs.Numbers.Forms.{form_wide_signed}
use Rattle.text_scan.proofs.parser.extended_number.form.integer.Goals as goal

pub returns-in-Err : goal.returns-in-Err
returns-in-Err c = λ precision small.
    let wide : FitsSigned w128 c.with_sign.result = search rules in
    ap (λ z. record { form = decimal128; scale = 0; whole = z }) (to_z-of_z w128 c.with_sign.result wide ∙ c.with_sign.ensures)
    ∙ form_wide_signed precision c.args.magnitude c.args.negative (omega (arith, c.in-Err.ensures)) small

use Rattle.std.proofs.Common.{rules, ap, ◌∙◌}
use Rattle.std.specs.Prelude.{FitsSigned}
use Rattle.std.specs.Int.{w64}
use Rattle.std.specs.Fmt.{signed_decimal}
use Rattle.std.proofs.lemmas.Int.{to_z-of_z}
use Rattle.jsonb_core.proofs.Numbers.Pointed.{signed_is_text}
use Rattle.jsonb_core.proofs.number.text.signed_text.Goals as goal

pub returns-clause-text : goal.returns-clause-text
returns-clause-text c =
    let fits : FitsSigned w64 c.args.n = search rules in
    c.format.ensures.text ∙ (ap signed_decimal (to_z-of_z w64 c.args.n fits) ∙ signed_is_text c.args.n fits)

use Rattle.std.proofs.Common.{Some, ap, rules, subst, sym, ◌∙◌}
use Rattle.std.specs.Prelude.{FitsSigned}
use Rattle.std.specs.Int.{w64}
use Rattle.std.proofs.lemmas.Option.{same_Some}
use Rattle.std.proofs.lemmas.Int.{to_z-of_z}
use Rattle.jsonb_spec.specs.Number.Cast.{HasValue}
use Rattle.key_value.proofs.Integers.{same_value}
use Rattle.key_value.proofs.number.integer_of.Goals as goal

pub returns-in-Some : goal.returns-in-Some
returns-in-Some c = λ n proper more e v.
    let integer = c.in-Some.integer in
    let fits : FitsSigned w64 integer = search rules in
    let same = to_z-of_z w64 integer fits in
    let has : HasValue n integer = c.in-Some.ensures n proper more e in (
      λ is. subst (λ w. HasValue n w × FitsSigned w64 w) (sym same ∙ same_Some _ v is) (has, fits),
      λ other. ap Some (same ∙ same_value n integer v has other.0),
    )

use Rattle.std.proofs.Common.{[], refl, sym, subst, ◌∙◌}
use Rattle.std.specs.Int.{w64}
use Rattle.std.proofs.lemmas.Int.{to_z-of_z}
use Rattle.jsonb_spec.specs.Interface.Scalars.{IsInteger}
use Rattle.jsonb_c.proofs.Integers.{no_number, is_found, is_none}
use Rattle.jsonb_c.proofs.KeyParts.{all_of_it}
use Rattle.jsonb_c.proofs.Scalars.{has_kind}
use Rattle.jsonb_c.proofs.scalar.vizhoniku_key_integer.Goals as goal

pub returns-in_default-clause-integer : goal.returns-in_default-clause-integer
returns-in_default-clause-integer c = λ t k.
    absurd (has_kind t k.readable c.kind_of.result c.in_default.is (c.kind_of.ensures.kind t k.readable [] (all_of_it c.args.key.now t k)))

pub returns-then-not-is_number-clause-integer : goal.returns-then-not-is_number-clause-integer
returns-then-not-is_number-clause-integer c = λ t k.
    no_number t k.readable c.in-Some.kind (sym c.in-Some.is ∙ c.kind_of.ensures.kind t k.readable [] (all_of_it c.args.key.now t k)) (sym c.is_number.ensures ∙ c.if-not-is_number.true)

pub returns-in-Some-integer_of-clause-integer : goal.returns-in-Some-integer_of-clause-integer
returns-in-Some-integer_of-clause-integer c = λ t k.
    let there = is_found t k.readable c.in-Some.kind (sym c.in-Some.is ∙ c.kind_of.ensures.kind t k.readable [] (all_of_it c.args.key.now t k)) (sym c.is_number.ensures ∙ c.if-not-is_number.false) c.args.key.now (all_of_it c.args.key.now t k) c.integer_of.result c.integer_of.ensures c.in-Some-integer_of.integer c.in-Some-integer_of.is in
    subst (λ v. IsInteger t 0 v) (sym (to_z-of_z w64 c.in-Some-integer_of.integer (there.found refl).1)) there

pub returns-in-None-clause-integer : goal.returns-in-None-clause-integer
returns-in-None-clause-integer c = λ t k.
    is_none t k.readable c.in-Some.kind (sym c.in-Some.is ∙ c.kind_of.ensures.kind t k.readable [] (all_of_it c.args.key.now t k)) (sym c.is_number.ensures ∙ c.if-not-is_number.false) c.args.key.now (all_of_it c.args.key.now t k) c.integer_of.result c.integer_of.ensures c.in-None.is

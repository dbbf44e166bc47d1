use Rattle.std.proofs.Common.{[], sym, subst, rules, FitsSigned, ◌∙◌}
use Rattle.std.specs.Int.{w64}
use Rattle.std.proofs.lemmas.Int.{to_z-of_z}
use Rattle.jsonb_spec.specs.Interface.Scalars.{IsDecimal}
use Rattle.jsonb_c.proofs.Decimals.{no_number, is_found, is_none}
use Rattle.jsonb_c.proofs.KeyParts.{all_of_it}
use Rattle.jsonb_c.proofs.Scalars.{has_kind}
use Rattle.jsonb_c.proofs.scalar.any_decimal.Goals as goal

pub returns-in_default-clause-decimal : goal.returns-in_default-clause-decimal
returns-in_default-clause-decimal c = λ t k.
    absurd (has_kind t k.readable c.kind_of.result c.in_default.is (c.kind_of.ensures.kind t k.readable [] (all_of_it c.args.key.now t k)))

pub returns-then-not-is_number-clause-decimal : goal.returns-then-not-is_number-clause-decimal
returns-then-not-is_number-clause-decimal c = λ t k.
    no_number t k.readable c.in-Some.kind (sym c.in-Some.is ∙ c.kind_of.ensures.kind t k.readable [] (all_of_it c.args.key.now t k)) (sym c.is_number.ensures ∙ c.if-not-is_number.true)

pub returns-in-Some-decimal_of-clause-decimal : goal.returns-in-Some-decimal_of-clause-decimal
returns-in-Some-decimal_of-clause-decimal c = λ t k.
    let there = is_found t k.readable c.in-Some.kind (sym c.in-Some.is ∙ c.kind_of.ensures.kind t k.readable [] (all_of_it c.args.key.now t k)) (sym c.is_number.ensures ∙ c.if-not-is_number.false) c.args.key.now (all_of_it c.args.key.now t k) c.decimal_of.result c.decimal_of.ensures c.in-Some-decimal_of.decimal c.in-Some-decimal_of.is in
    let fits : FitsSigned w64 c.in-Some-decimal_of.decimal.digits = search rules in
    subst (λ d. IsDecimal t 0 d c.in-Some-decimal_of.decimal.scale) (sym (to_z-of_z w64 c.in-Some-decimal_of.decimal.digits fits)) there

pub returns-in-None-clause-decimal : goal.returns-in-None-clause-decimal
returns-in-None-clause-decimal c = λ t k.
    is_none t k.readable c.in-Some.kind (sym c.in-Some.is ∙ c.kind_of.ensures.kind t k.readable [] (all_of_it c.args.key.now t k)) (sym c.is_number.ensures ∙ c.if-not-is_number.false) c.args.key.now (all_of_it c.args.key.now t k) c.decimal_of.result c.decimal_of.ensures c.in-None.is

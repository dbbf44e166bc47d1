use Rattle.std.proofs.Common.{[]}
use Rattle.jsonb_spec.specs.Accessors.{as_boolean}
use Rattle.jsonb_c.proofs.KeyParts.{all_of_it}
use Rattle.jsonb_c.proofs.Scalars.{is_reported, is_none, has_kind}
use Rattle.jsonb_c.proofs.scalar.vizhoniku_key_boolean.Goals as goal

pub returns-in-Some-clause-boolean : goal.returns-in-Some-clause-boolean
returns-in-Some-clause-boolean c = λ t k.
    is_reported c.boolean_of.result (as_boolean t) c.in-Some.boolean c.number_of.result c.in-Some.is (c.boolean_of.ensures.boolean t k.readable [] (all_of_it c.args.key.now t k)) c.number_of.ensures

pub returns-in-Some-kind_of-clause-boolean : goal.returns-in-Some-kind_of-clause-boolean
returns-in-Some-kind_of-clause-boolean c = λ t k.
    is_none c.boolean_of.result (as_boolean t) 0 c.in_default.is (c.boolean_of.ensures.boolean t k.readable [] (all_of_it c.args.key.now t k))

pub returns-in-None-clause-boolean : goal.returns-in-None-clause-boolean
returns-in-None-clause-boolean c = λ t k.
    absurd (has_kind t k.readable c.kind_of.result c.in-None.is (c.kind_of.ensures.kind t k.readable [] (all_of_it c.args.key.now t k)))

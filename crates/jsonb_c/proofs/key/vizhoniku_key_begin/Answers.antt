use Rattle.std.proofs.Common.{◌≡◌, [], ◌∷◌, IfSome, Ok, subst}
use Rattle.key_walk.specs.Found.{Opens}
use Rattle.jsonb_spec.specs.SortKey.Open.{opening_byte}
use Rattle.jsonb_c.proofs.KeyParts.{all_of_it, begun, not_begun}
use Rattle.jsonb_c.proofs.key.vizhoniku_key_begin.Goals as goal

pub returns-in-Ok-Some-clause-begun : goal.returns-in-Ok-Some-clause-begun
returns-in-Ok-Some-clause-begun c = λ t k.
    let l = subst (λ answer. Opens t [] (Ok answer)) c.in-Ok-Some.field-0-is (c.in-Ok-Some.ensures.opens t k.readable [] (all_of_it c.args.key.now t k)) in
    let first = subst (λ answer. IfSome answer (λ parts. c.args.key.now ≡ opening_byte parts.0 ∷ parts.1.now)) c.in-Ok-Some.field-0-is c.in-Ok-Some.ensures.some in
    begun c.args.key.now t c.in-Ok-Some.parts.0 c.in-Ok-Some.parts.1.now c.kind_of_parts.result l first c.kind_of_parts.ensures

pub returns-in-Ok-None-clause-begun : goal.returns-in-Ok-None-clause-begun
returns-in-Ok-None-clause-begun c = λ t k.
    let scalar = subst (λ answer. Opens t [] (Ok answer)) c.in-Ok-None.field-0-is (c.in-Ok-None.ensures.opens t k.readable [] (all_of_it c.args.key.now t k)) in
    not_begun c.args.key.now t (record { kind = 0; offset = 0 }) scalar

pub returns-in-Err-clause-begun : goal.returns-in-Err-clause-begun
returns-in-Err-clause-begun c = λ t k. absurd (c.in-Err.ensures.opens t k.readable [] (all_of_it c.args.key.now t k))

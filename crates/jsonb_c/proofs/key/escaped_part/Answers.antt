use Rattle.std.proofs.Common.{◌≡◌, List, ℕ, [], IfSome, inr, map, string_bytes, ap, subst, sym, ◌∙◌}
use Rattle.jsonb_spec.specs.Path.{IsPath}
use Rattle.key_walk.specs.Found.{Finds}
use Rattle.jsonb_spec.specs.PartAt.{part_at}
use Rattle.jsonb_c.proofs.KeyParts.{all_of_it}
use Rattle.jsonb_c.proofs.key.escaped_part.Goals as goal

pub returns-in-Ok-Some-clause-found : goal.returns-in-Ok-Some-clause-found
returns-in-Ok-Some-clause-found c = λ t k names is_path.
    let only = subst (λ answer. IfSome answer (λ keys. (others : List (List ℕ)) → IsPath c.args.path.now others → others ≡ map string_bytes keys.items)) c.in-Ok-Some.field-0-is c.in-Ok-Some.ensures.only in
    let same : names ≡ map string_bytes c.deref.result.now = only names is_path ∙ ap (map string_bytes) (sym c.deref.ensures.value) in
    inr (c.report_range.ensures.found (part_at names t)
    (subst (λ asked. Finds c.args.key.now (part_at asked t) c.find_part.result) (sym same) (c.find_part.ensures.finds.found t k.readable [] (all_of_it c.args.key.now t k))))

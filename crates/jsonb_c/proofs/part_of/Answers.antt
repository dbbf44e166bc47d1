use Rattle.std.proofs.Common.{rules, ◌⊎◌, ℕ, List, [], ◌∷◌, ◌++◌, IfSome, inl, inr, map, string_bytes, refl, subst, sym}
use Rattle.std.proofs.lemmas.Result.{IfOk-weaker}
use Rattle.jsonb_spec.specs.Parsing.Memory.{MayAllocate}
use Rattle.jsonb_spec.specs.Path.{IsPath, StartsKey, encoded_key, encoded_keys}
use Rattle.jsonb_spec.specs.Interface.{IsAccepted, HasPartAt}
use Rattle.jsonb_c.proofs.part_of.Goals as goal

-- where memory ran out, the path has a key, or the part is the whole value
wanted : (number : ℕ) (path text : List ℕ) (keys : List (List ℕ)) → IsPath path keys → MayAllocate text ⊎ IsAccepted number text
    → MayAllocate text ⊎ (IsAccepted number text × StartsKey path) ⊎ HasPartAt number path text
wanted number path text keys is_path (inl may) = inl may
wanted number path text [] is_path (inr accepted) = inr (inr (record { tree = accepted.tree; read = accepted.read; keys = []; is_path = is_path; part = accepted.tree; at = refl }))
wanted number path text (key ∷ keys) is_path (inr accepted) = inr (inl (accepted, (encoded_key key ++ encoded_keys keys, is_path.encoded)))

pub returns-in-Ok-Some-clause-part : goal.returns-in-Ok-Some-clause-part
returns-in-Ok-Some-clause-part c =
    let is_path : IsPath c.args.path.now (map string_bytes c.in-Ok-Some.keys.items) =
    subst (λ answer. IfSome answer (λ keys. IsPath c.args.path.now (map string_bytes keys.items))) c.in-Ok-Some.field-0-is c.in-Ok-Some.ensures.some in
    let passed : IsPath c.args.path.now (map string_bytes c.deref.result.now) =
    subst (λ items. IsPath c.args.path.now (map string_bytes items)) (sym c.deref.ensures.value) is_path in
    IfOk-weaker c.part_at_keys.result _ _ (λ part answers. answers c.args.path.now passed) c.part_at_keys.ensures.part

pub returns-in-Ok-Some-clause-fails : goal.returns-in-Ok-Some-clause-fails
returns-in-Ok-Some-clause-fails c = record {
  reason = search rules;
  memory = λ is.
      let is_path : IsPath c.args.path.now (map string_bytes c.in-Ok-Some.keys.items) =
      subst (λ answer. IfSome answer (λ keys. IsPath c.args.path.now (map string_bytes keys.items))) c.in-Ok-Some.field-0-is c.in-Ok-Some.ensures.some in
      wanted c.args.mode c.args.path.now c.args.text.now (map string_bytes c.in-Ok-Some.keys.items) is_path (c.part_at_keys.ensures.fails.memory is);
}

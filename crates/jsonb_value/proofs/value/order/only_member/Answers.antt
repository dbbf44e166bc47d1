use Rattle.std.proofs.Common.{◌≡◌, List, [], ◌∷◌, Option, Some, None, IfSome, unwrap_or, length, ap, sym, ◌∙◌, arith, rules}
use Rattle.std.specs.List.{slice_get}
use Rattle.jsonb_value.proofs.Values.Members.{Entry}
use Rattle.jsonb_value.proofs.value.order.only_member.Goals as goal

-- a list of one entry, which is known
one_entry : (es : List Entry) (e : Entry) → length es ≡ 1 → slice_get es 0 ≡ Some e → es ≡ e ∷ []
one_entry [] e l h = absurd (search rules)
one_entry (x ∷ []) e l h = ap (λ r. unwrap_or r x ∷ []) h
one_entry (x ∷ y ∷ es) e l h = absurd (omega (arith, l))

one_if_some : {A : Type 0} (f : A → Entry) (r : Option A) (es : List Entry) → length es ≡ 1 → IfSome r (λ a. slice_get es 0 ≡ Some (f a)) → IfSome r (λ a. es ≡ f a ∷ [])
one_if_some f None es l h = h
one_if_some f (Some a) es l h = one_entry es (f a) l h

pub returns : goal.returns
returns c = one_if_some (λ m. (m.0.now, m.1.now)) c.first_key_value.result _ (sym c.len.ensures.len ∙ c.if-len-ne1.false) c.first_key_value.ensures.first

-- What is said of the booleans of keys.
use Rattle.std.proofs.Common.{◌≡◌, ℕ, Bool, Option, Some, None, sym, subst, refl, ap, ◌∙◌, if◌then◌else◌}
use Rattle.jsonb_spec.specs.SortKey.Readable.{IsReadable}
use Rattle.jsonb_spec.specs.Tree.{Tree}
use Rattle.key_walk.specs.declared.walk.Kind.{Kind}
use Rattle.key_walk.specs.Parts.{kind_of_tree}
use Rattle.jsonb_c.specs.KeyParts.{kind_number}
use Rattle.jsonb_spec.specs.Interface.Scalars.{IsBoolean}
use Rattle.jsonb_c.proofs.KeyParts.{some_kind}

pub is_reported : (found wanted : Option Bool) (b : Bool) (value : ℕ) → found ≡ Some b → found ≡ wanted → value ≡ (if b then 1 else 0) → IsBoolean wanted 0 value
is_reported found wanted b value is e v = subst (λ a. IsBoolean a 0 value) {x = Some b} {y = wanted} (sym is ∙ e) (refl, v)

pub is_none : (found wanted : Option Bool) (value : ℕ) → found ≡ None → found ≡ wanted → IsBoolean wanted 5 value
is_none found wanted value is e = subst (λ a. IsBoolean a 5 value) {x = None} {y = wanted} (sym is ∙ e) refl

pub has_kind : (t : Tree) → IsReadable t → (kind : Option Kind) → kind ≡ None → kind ≡ kind_of_tree t → ⊥
has_kind t r kind is e = some_kind t r 0 (ap kind_number (sym is ∙ e)) refl

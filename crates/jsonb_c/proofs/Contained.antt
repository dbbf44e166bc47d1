-- What is reported of containment by a status.
use Rattle.std.proofs.Common.{◌≡◌, Bool, true, false, Result, Ok, Err, refl, sym, subst, ◌∙◌}
use Rattle.key_walk.specs.declared.find.NoKey.{NoKey}
use Rattle.jsonb_spec.specs.Interface.KeyContains.{IsContained}

same_answer : (a b : Bool) → ◌≡◌ {A = Result Bool NoKey} (Ok a) (Ok b) → a ≡ b
same_answer a b e = cc

pub contained : (a b : Bool) → a ≡ true → ◌≡◌ {A = Result Bool NoKey} (Ok a) (Ok b) → IsContained b 0
contained a b is e = subst (λ x. IsContained x 0) (sym is ∙ same_answer a b e) refl

pub not_contained : (a b : Bool) → a ≡ false → ◌≡◌ {A = Result Bool NoKey} (Ok a) (Ok b) → IsContained b 5
not_contained a b is e = subst (λ x. IsContained x 5) (sym is ∙ same_answer a b e) refl

pub no_answer : (x : NoKey) (b : Bool) → ◌≡◌ {A = Result Bool NoKey} (Err x) (Ok b) → ⊥
no_answer x b e = cc

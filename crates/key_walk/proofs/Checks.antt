-- What is returned where bytes were checked: the bytes behind a key, exactly where one is first.
use Rattle.std.proofs.Common.{◌≡◌, ◌↔◌, List, ℕ, Some, None, ap}
use Rattle.key_value.proofs.Texts.{none_some, some_same}

-- no key is first
pub never : (P : List ℕ → Type 0) → ((more : List ℕ) → P more → ⊥) → (more : List ℕ) → (None ≡ Some more) ↔ P more
never P none more = (λ e. absurd (none_some more e), λ p. absurd (none more p))

-- a key is first, and the rest behind it
pub exactly : (P : List ℕ → Type 0) (rest : List ℕ) → ((more : List ℕ) → (rest ≡ more) ↔ P more) → (more : List ℕ) → (Some rest ≡ Some more) ↔ P more
exactly P rest both more = (λ e. (both more).0 (some_same rest more e), λ p. ap (λ r. Some r) ((both more).1 p))

pub through : (P Q R : Type 0) → P ↔ Q → Q ↔ R → P ↔ R
through P Q R a b = (λ p. b.0 (a.0 p), λ r. a.1 (b.1 r))

-- An answer that is behind more bytes.
use Rattle.std.proofs.Common.{◌≡◌, ℕ, ◌↔◌, Bool, List, [], ◌++◌, Option, Some, None, refl, sym, ap, ◌∙◌, append_assoc}
use Rattle.std.specs.Bool.{⊤}
use Rattle.jsonb_spec.specs.Edit.{Outcome, stays, goes, becomes}
use Rattle.jsonb_spec.specs.Edit.Spots.{Answers}

-- the second has the bytes in front of the first, and fits where that does; or there is neither
abbrev pub Lifts : {A B : Type 0} → (A → List ℕ) → (A → Type 0) → (B → List ℕ) → (B → Type 0) → List ℕ → Option A → Option B → Type 0
Lifts key Fits others AlsoFits before None None = ⊤
Lifts key Fits others AlsoFits before None (Some b) = ⊥
Lifts key Fits others AlsoFits before (Some a) None = ⊥
Lifts key Fits others AlsoFits before (Some a) (Some b) = (others b ≡ before ++ key a) × (AlsoFits b ↔ Fits a)

pub both_ways : {P Q R : Type 0} → (P ↔ Q) → (Q ↔ R) → (P ↔ R)
both_ways f g = (λ p. g.0 (f.0 p), λ r. f.1 (g.1 r))

pub lifts_same : {A : Type 0} (key : A → List ℕ) (Fits : A → Type 0) (x : Option A) → Lifts key Fits key Fits [] x x
lifts_same key Fits None = tt
lifts_same key Fits (Some a) = (refl, (λ f. f, λ f. f))

-- what is answered of the first, is answered of the second
pub lifted : {A B : Type 0} (a : A → List ℕ) (Fa : A → Type 0) (b : B → List ℕ) (Fb : B → Type 0) (object : Bool) (name before front behind : List ℕ) (depth_left : ℕ) (outcome : Outcome) (x : Option A) (y : Option B) → Lifts a Fa b Fb before x y
    → Answers a Fa object name front behind depth_left outcome x → Answers b Fb object name (before ++ front) behind depth_left outcome y
lifted a Fa b Fb object name before front behind depth_left stays None None l h = tt
lifted a Fa b Fb object name before front behind depth_left stays None (Some y) l h = absurd l
lifted a Fa b Fb object name before front behind depth_left stays (Some x) y l h = absurd h
lifted a Fa b Fb object name before front behind depth_left goes None y l h = absurd h
lifted a Fa b Fb object name before front behind depth_left goes (Some x) None l h = absurd l
lifted a Fa b Fb object name before front behind depth_left goes (Some x) (Some y) l h = (l.0 ∙ ap (λ key. before ++ key) h.0 ∙ sym (append_assoc before front behind), l.1.1 h.1)
lifted a Fa b Fb object name before front behind depth_left (becomes t) None y l h = absurd h
lifted a Fa b Fb object name before front behind depth_left (becomes t) (Some x) None l h = absurd l
lifted a Fa b Fb object name before front behind depth_left (becomes t) (Some x) (Some y) l h = (l.0 ∙ ap (λ key. before ++ key) h.0 ∙ sym (append_assoc before front _), both_ways l.1 h.1)

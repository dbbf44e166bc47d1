-- What becomes of a value by what becomes of a part, in its key.
use Rattle.std.specs.Prelude.{◌≡◌, ℕ, ◌↔◌, Bool, List, ◌++◌, Option, Some, None, ⊤}
use Rattle.jsonb_spec.specs.SortKey.Readable.{IsAnyNumber}
use Rattle.jsonb_spec.specs.SortKey.Open.{name_key}
use Rattle.jsonb_spec.specs.SortKey.{key_of}
use Rattle.jsonb_spec.specs.Text.Range.{IsWithin}
use Rattle.jsonb_spec.specs.Edit.{Outcome, stays, goes, becomes}

-- The answer by what becomes of the part there: its key is the front, what is there then, and what is behind.
abbrev pub Answers : {A : Type 0} → (A → List ℕ) → (A → Type 0) → Bool → List ℕ → List ℕ → List ℕ → ℕ → Outcome
    → Option A → Type 0
Answers key Fits object name front behind depth_left stays None = ⊤
Answers key Fits object name front behind depth_left stays (Some a) = ⊥
Answers key Fits object name front behind depth_left goes None = ⊥
Answers key Fits object name front behind depth_left goes (Some a) = (key a ≡ front ++ behind) × Fits a
Answers key Fits object name front behind depth_left (becomes t) None = ⊥
Answers key Fits object name front behind depth_left (becomes t) (Some a) =
    (key a ≡ front ++ (name_key object name ++ (key_of t ++ behind))) × (Fits a ↔ IsWithin IsAnyNumber t depth_left)

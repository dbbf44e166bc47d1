-- The zeros of some of a value's numbers.
use Rattle.std.specs.Prelude.{◌≡◌, ℕ, ◌<◌, List, ◌∷◌, ◌++◌, length, take, drop, replicate, Option, Some, None}
use Rattle.std.specs.Borrow.{Bor}
use Rattle.jsonb_spec.specs.Document.Zeros.{zeros_of}

-- of these counts so many, from the first on, whose own index is 0
abbrev pub counts_taken : ℕ → ℕ → List ℕ → List ℕ
counts_taken first numbers counts = take numbers (drop first counts)

-- The first count above 0 comes behind so many that are 0, and these are the zeros of the numbers behind it.
pub record PendsAt (counts : List ℕ) (before count : ℕ) (rest : List ℕ) : Type 0 where
  pub later : List ℕ
  pub is : counts ≡ replicate before 0 ++ count ∷ later
  pub some : 0 < count
  pub zeros : rest ≡ zeros_of 0 later

-- what is reported of the first count above 0; nothing where all are 0
abbrev pub Pends : List ℕ → Option (ℕ × ℕ × Bor (List ℕ)) → Type 0
Pends counts None = counts ≡ replicate (length counts) 0
Pends counts (Some entry) = PendsAt counts entry.0 entry.1 entry.2.now

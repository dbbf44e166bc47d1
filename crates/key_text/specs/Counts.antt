-- Which counts of zeros are due behind what was passed.
use Rattle.std.specs.Prelude.{◌≡◌, ℕ, ◌<◌, List, ◌++◌, length, replicate, MatchResult, Result, Vec, vec_capacity}
use Rattle.std.specs.declared.alloc.Global.{Global}
use Rattle.key_value.specs.declared.error.KeyError.{KeyError}
use Rattle.key_value.specs.declared.error.KeyError.TheVariants.{OutOfMemory}

-- These counts are due behind bytes that were passed, with which no number begins.
pub record IsDue (Due : List ℕ → Type 0) (counts : List ℕ) : Type 0 where
  pub passed : ℕ
  pub due : Due (replicate passed 0 ++ counts)

-- Whichever counts the bytes behind have, this is so of them, where these counts and those are due.
abbrev pub WhereDue : (List ℕ → Type 0) → List ℕ → List ℕ → (List ℕ → Type 0) → Type 0
WhereDue Due counts more Is = (later : List ℕ) → length later ≡ length more → IsDue Due (counts ++ later) → Is later

-- The buffer is then this, and these counts are due. Else memory ran out, as the capacity for it is missing.
abbrev pub Completes : {X : Type 0} → (List ℕ → Type 0) → List ℕ → List ℕ → Result X KeyError → Vec ℕ Global
    → Vec ℕ Global → Type 0
Completes Due counts whole result old new = MatchResult result
    (λ _. (new.items ≡ whole) × Due counts)
    (λ e. (e ≡ OutOfMemory) × (vec_capacity old < length whole))

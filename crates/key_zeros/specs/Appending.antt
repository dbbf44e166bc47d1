-- What is appended, or which error there is.
use Rattle.std.specs.Prelude.{◌≡◌, ℕ, ◌+◌, ◌<◌, List, ◌++◌, length, MatchResult, Result, Vec, vec_len, vec_capacity}
use Rattle.std.specs.declared.alloc.Global.{Global}
use Rattle.key_zeros.specs.declared.error.ZerosError.{ZerosError}

-- The bytes are appended. Else there is this error, and the capacity for all of them is missing.
abbrev pub AppendsOr : {X : Type 0} → ZerosError → Result X ZerosError → Vec ℕ Global → Vec ℕ Global → List ℕ → Type 0
AppendsOr error result old new bytes = MatchResult result
    (λ _. new.items ≡ old.items ++ bytes)
    (λ e. (e ≡ error) × (vec_capacity old < vec_len old + length bytes))

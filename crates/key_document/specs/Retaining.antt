-- A key that is walked while parts of it are left out: what stays of its bytes, or of their zeros, is written.
use Rattle.std.specs.Prelude.{◌≡◌, ⊤, ℕ, ◌+◌, ◌<◌, ◌^◌, Bool, true, false, if◌then◌else◌, List, [], ◌∷◌, ◌++◌, length, MatchBool, MatchResult, Option, Some, None, Result, Ok, Vec, vec_len}
use Rattle.std.specs.Vec.{vec_capacity}
use Rattle.std.specs.declared.alloc.Global.{Global}
use Rattle.jsonb_spec.specs.SortKey.{key_of}
use Rattle.jsonb_spec.specs.Tree.{Tree}
use Rattle.key_document.specs.declared.error.DocumentError.{DocumentError}
use Rattle.key_document.specs.declared.error.DocumentError.TheVariants.{OutOfMemory}
use Rattle.key_document.specs.declared.retain.Output.{Output}
use Rattle.key_document.specs.declared.retain.Output.TheVariants.{Bytes, Zeros}
use Rattle.key_document.specs.declared.retain.Retaining.{Retaining}
use Rattle.jsonb_spec.specs.Document.Numbers.{Pends}
use Rattle.jsonb_spec.specs.Document.Zeros.{zeros_of}
use Rattle.jsonb_spec.specs.Document.Counts.{counts_at}

-- what is written of bytes with these counts: the bytes, or their zeros
abbrev pub output_of : Output → List ℕ → List ℕ → List ℕ
output_of Bytes bytes counts = bytes
output_of (Zeros plain left) bytes counts = zeros_of plain counts

-- The zeros that are left are those of these counts.
abbrev pub AreAhead : Output → List ℕ → Type 0
AreAhead Bytes counts = ⊤
AreAhead (Zeros plain left) counts = Pends counts left × (plain + length counts < 2 ^ 63)

-- These bytes, or their zeros, are appended, and what is written of bytes behind them follows. Else memory ran out, as
-- the capacity for all of it is missing.
abbrev pub WritesOn : Output → List ℕ → List ℕ → List ℕ → Result Output DocumentError → Vec ℕ Global → Vec ℕ Global
    → Type 0
WritesOn output bytes counts behind result old new = MatchResult result
    (λ next. (new.items ≡ old.items ++ output_of output bytes counts) × AreAhead next behind
    × ((later later_counts : List ℕ) → output_of output (bytes ++ later) (counts ++ later_counts)
    ≡ output_of output bytes counts ++ output_of next later later_counts))
    (λ e. (e ≡ OutOfMemory) × (vec_capacity old < vec_len old + length (output_of output bytes counts)))

-- What is written of bytes behind those that are left out is as without them.
abbrev pub LeavesOut : Output → List ℕ → Result Output DocumentError → Type 0
LeavesOut output behind result = MatchResult result
    (λ next. AreAhead next behind
    × ((later later_counts : List ℕ) → output_of next later later_counts ≡ output_of output later later_counts))
    (λ e. ⊥)

-- Of what is to be written of these bytes a piece is appended. Some bytes that stay aren't written yet; behind them
-- these are left, of which those stay. Where nothing was left out, nothing is written.
pub record Retains (first : Output) (bytes counts ahead ahead_counts later later_counts : List ℕ)
    (retaining : Retaining) (old new : List ℕ) : Type 0 where
  pub waiting : List ℕ
  pub waiting_counts : List ℕ
  pub each : length waiting_counts ≡ length waiting
  pub pending_is : retaining.pending.now ≡ waiting ++ ahead
  pub are_ahead : AreAhead retaining.output (waiting_counts ++ ahead_counts)
  pub piece : List ℕ
  pub appended : new ≡ old ++ piece
  pub whole : output_of first bytes counts
      ≡ piece ++ output_of retaining.output (waiting ++ later) (waiting_counts ++ later_counts)
  pub nothing : retaining.found ≡ false → piece ≡ []

-- what stays, of bytes that stay unless they go, and of those behind them
abbrev pub unless : Bool → List ℕ → List ℕ → List ℕ
unless goes bytes later = if goes then later else bytes ++ later

-- Nothing of the value changes, and nothing is appended; or what is written of the changed value. Else memory ran out,
-- as the capacity for all of it is missing.
abbrev pub WritesAnswer : Output → Option Tree → Result Bool DocumentError → Vec ℕ Global → Vec ℕ Global → Type 0
WritesAnswer first None result old new = (result ≡ Ok false) × (new.items ≡ old.items)
WritesAnswer first (Some t) result old new = MatchResult result
    (λ changed. (changed ≡ true) × (new.items ≡ old.items ++ output_of first (key_of t) (counts_at t)))
    (λ e. (e ≡ OutOfMemory) × (vec_capacity old < vec_len old + length (output_of first (key_of t) (counts_at t))))

-- What a walk reports at its end: whether anything was left out, and where it was, all is written. Else memory ran out,
-- as the capacity for all of it is missing.
abbrev pub Finishes : Output → Tree → Bool → List ℕ → Result Bool DocumentError → Vec ℕ Global → Vec ℕ Global → Type 0
Finishes first t found before result old new = MatchResult result
    (λ changed. (changed ≡ found)
    × MatchBool changed (new.items ≡ before ++ output_of first (key_of t) (counts_at t)) (new.items ≡ before))
    (λ e. (found ≡ true) × (e ≡ OutOfMemory)
    × (vec_capacity old < length before + length (output_of first (key_of t) (counts_at t))))

-- Nothing is written yet of a key that begins with this byte, and has these behind it.
pub record IsBegun (byte : ℕ) (retaining : Retaining) (behind counts : List ℕ) : Type 0 where
  pub nothing : retaining.found ≡ false
  pub pending_is : retaining.pending.now ≡ byte ∷ behind
  pub are_ahead : AreAhead retaining.output (0 ∷ counts)

-- What is written of the value is appended. Else memory ran out, as the capacity for all of it is missing.
abbrev pub WritesAll : {X : Type 0} → Output → Tree → Result X DocumentError → Vec ℕ Global → Vec ℕ Global → Type 0
WritesAll first t result old new = MatchResult result
    (λ x. new.items ≡ old.items ++ output_of first (key_of t) (counts_at t))
    (λ e. (e ≡ OutOfMemory) × (vec_capacity old < vec_len old + length (output_of first (key_of t) (counts_at t))))

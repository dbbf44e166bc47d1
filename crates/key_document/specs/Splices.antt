-- A change of a value as a splice: of its key, and in the same slots of the counts of its bytes.
use Rattle.std.specs.Prelude.{◌≡◌, ℕ, ◌+◌, ◌<◌, ◌≤◌, ◌^◌, OnErr, List, ◌++◌, length, replicate, Option, ◌⊎◌, MatchResult, Result, Vec, vec_len}
use Rattle.std.specs.Vec.{vec_capacity}
use Rattle.std.specs.declared.alloc.Global.{Global}
use Rattle.jsonb_spec.specs.Text.Appending.{Extends}
use Rattle.jsonb_spec.specs.Tree.{Tree}
use Rattle.key_document.specs.declared.error.DocumentError.{DocumentError}
use Rattle.key_document.specs.declared.error.DocumentError.TheVariants.{OutOfMemory}
use Rattle.key_document.specs.declared.splice.Lengths.{Lengths}
use Rattle.jsonb_spec.specs.Document.Zeros.{zeros_of}
use Rattle.jsonb_spec.specs.Edit.{Outcome, stays, becomes}

-- Whatever is there, the change puts the part there, or what is there stays.
abbrev pub PutsPart : Tree → (Option Tree → Outcome) → Type 0
PutsPart part change = (there : Option Tree) → (change there ≡ becomes part) ⊎ (change there ≡ stays)

-- ---- the zeros of a splice

-- the counts of a key with the part at the slot, behind its name
abbrev pub spliced_counts : List ℕ → ℕ → List ℕ → List ℕ → List ℕ
spliced_counts front name part behind = front ++ (replicate name 0 ++ (part ++ behind))

-- The zeros are of these counts: those before the slot, of what is there, and behind it; and of those of the part.
-- The lengths are theirs, and the new key has fewer than 2^63 bytes.
pub record AreSpliced (key_len : ℕ) (zeros part_zeros : List ℕ) (lengths : Lengths) (front entry part behind : List ℕ)
    : Type 0 where
  pub zeros_are : zeros ≡ zeros_of 0 (front ++ (entry ++ behind))
  pub part_are : part_zeros ≡ zeros_of 0 part
  pub key_is : key_len ≡ length front + (length entry + length behind)
  pub front_is : lengths.front ≡ length front
  pub part_is : lengths.part ≡ length part
  pub behind_is : lengths.behind ≡ length behind
  pub small : key_len < 2 ^ 63
  pub fit : length front + (lengths.name + (length part + length behind)) < 2 ^ 63

-- These bytes are appended. Else memory ran out, as the capacity for all of them is missing.
abbrev pub AppendsZeros : {X : Type 0} → Result X DocumentError → Vec ℕ Global → Vec ℕ Global → List ℕ → Type 0
AppendsZeros result old new bytes = MatchResult result (λ x. new.items ≡ old.items ++ bytes)
    (λ e. (e ≡ OutOfMemory) × (vec_capacity old < vec_len old + length bytes))

-- Bytes are appended. After an error those are left that was before the start of what was appended before, where they
-- was there. The capacity doesn't shrink.
pub record CutsOnError {X : Type 0} (start : ℕ) (result : Result X DocumentError) (old new : Vec ℕ Global)
    : Type 0 where
  pub err : OnErr result ((before : List ℕ) → length before ≡ start → Extends before old.items → new.items ≡ before)
  pub capacity : vec_capacity old ≤ vec_capacity new

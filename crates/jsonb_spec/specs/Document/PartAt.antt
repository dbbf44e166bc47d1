-- Where in a document a part is, and what a buffer retains after an error.
use Rattle.std.specs.Prelude.{◌≡◌, ℕ, ◌≤◌, List, ◌++◌, length, Result, OnErr, Vec}
use Rattle.std.specs.Vec.{vec_capacity}
use Rattle.std.specs.declared.alloc.Global.{Global}
use Rattle.jsonb_spec.specs.SortKey.Readable.{IsReadable}
use Rattle.jsonb_spec.specs.SortKey.{key_of}
use Rattle.jsonb_spec.specs.Tree.{Tree}
use Rattle.jsonb_spec.specs.Document.Counts.{counts_at}

-- After an error the buffer has its old bytes, and its capacity doesn't shrink.
pub record PreservesOnError {X E : Type 0} (result : Result X E) (old new : Vec ℕ Global) : Type 0 where
  pub err : OnErr result (new.items ≡ old.items)
  pub capacity : vec_capacity old ≤ vec_capacity new

-- In a key these bytes come first, and then the key of the part; and so it is with the counts of its bytes.
pub record IsBehind (key counts before : List ℕ) (part : Tree) : Type 0 where
  pub counts_before : List ℕ
  pub one_each : length counts_before ≡ length before
  pub behind : List ℕ
  pub counts_behind : List ℕ
  pub key_is : key ≡ before ++ (key_of part ++ behind)
  pub counts_are : counts ≡ counts_before ++ (counts_at part ++ counts_behind)

-- so in the key of the value
abbrev pub IsPartBehind : Tree → List ℕ → Tree → Type 0
IsPartBehind t before part = IsBehind (key_of t) (counts_at t) before part

-- The key of the part begins at this offset in that of the value, and so do the counts of its bytes.
abbrev pub IsPartAt : Tree → ℕ → Tree → Type 0
IsPartAt t offset part = (before : List ℕ) × (length before ≡ offset) × IsPartBehind t before part

-- Whichever part of the value is at this offset, and has a key of this size, this is so of it.
abbrev pub OfPartAt : Tree → ℕ → ℕ → (Tree → Type 0) → Type 0
OfPartAt t offset size Is =
    (part : Tree) → IsReadable part → IsPartAt t offset part → size ≡ length (key_of part) → Is part

-- A change of a value as a splice: of its key, and in the same slots of the counts of its bytes.
use Rattle.std.specs.Prelude.{◌≡◌, ⊤, ℕ, List, [], ◌++◌, length, replicate, Option, Some, None, IfSome, ◌⊎◌}
use Rattle.jsonb_spec.specs.Proper.{IsProper}
use Rattle.jsonb_spec.specs.SortKey.{key_of}
use Rattle.jsonb_spec.specs.Tree.{Tree}
use Rattle.jsonb_spec.specs.Edit.{Outcome, stays, goes, becomes}
use Rattle.jsonb_spec.specs.Document.Counts.{counts_at}

-- The slot of a change: what is before it and behind it in a key, with the counts of these bytes, and the name of
-- a member that would be there.
pub record Cut : Type 0 where
  pub front : List ℕ
  pub counts_front : List ℕ
  pub name : List ℕ
  pub behind : List ℕ
  pub counts_behind : List ℕ

-- The answer by what becomes of the part at the slot: in its key what is before the slot, what is there then,
-- and what is behind it; and the same of the counts of its bytes, of which a name has none.
abbrev pub IsSplice : {A : Type 0} → (A → List ℕ) → (A → List ℕ) → Cut → Outcome → Option A → Type 0
IsSplice key counts cut stays None = ⊤
IsSplice key counts cut stays (Some a) = ⊥
IsSplice key counts cut goes None = ⊥
IsSplice key counts cut goes (Some a) =
    (key a ≡ cut.front ++ cut.behind) × (counts a ≡ cut.counts_front ++ cut.counts_behind)
IsSplice key counts cut (becomes t) None = ⊥
IsSplice key counts cut (becomes t) (Some a) =
    (key a ≡ cut.front ++ (cut.name ++ (key_of t ++ cut.behind)))
    × (counts a ≡ cut.counts_front ++ (replicate (length cut.name) 0 ++ (counts_at t ++ cut.counts_behind)))

-- what is at the slot, with its name: nothing where no part is
abbrev pub entry_key : List ℕ → Option Tree → List ℕ
entry_key name None = []
entry_key name (Some t) = name ++ key_of t

-- the counts of these bytes
abbrev pub entry_counts : List ℕ → Option Tree → List ℕ
entry_counts name None = []
entry_counts name (Some t) = replicate (length name) 0 ++ counts_at t

-- There is a slot in the value, so that whatever becomes of the part there, the answer is such a splice.
pub record AreSplices {A : Type 0} (key counts : A → List ℕ) (whole : A) (changed : (Option Tree → Outcome) → Option A)
    : Type 0 where
  pub there : Option Tree
  pub proper : IfSome there IsProper
  pub cut : Cut
  pub one_each : length cut.counts_front ≡ length cut.front
  pub each_behind : length cut.counts_behind ≡ length cut.behind
  pub key_is : key whole ≡ cut.front ++ (entry_key cut.name there ++ cut.behind)
  pub counts_are : counts whole ≡ cut.counts_front ++ (entry_counts cut.name there ++ cut.counts_behind)
  pub answers : (change : Option Tree → Outcome) → IsSplice key counts cut (change there) (changed change)

-- Nothing ever changes, or changes are splices.
abbrev pub Spliced : {A : Type 0} → (A → List ℕ) → (A → List ℕ) → A → ((Option Tree → Outcome) → Option A) → Type 0
Spliced key counts whole changed =
    ((change : Option Tree → Outcome) → changed change ≡ None) ⊎ AreSplices key counts whole changed

-- The slot is this one.
pub record Agrees (front name behind : List ℕ) (cut : Cut) : Type 0 where
  pub front_is : front ≡ cut.front
  pub name_is : name ≡ cut.name
  pub behind_is : behind ≡ cut.behind

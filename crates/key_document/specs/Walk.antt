-- A walk over a document: where it is, and what it meets.
use Rattle.std.specs.Prelude.{◌≡◌, ◌≤◌, ℕ, ◌+◌, Bool, true, false, is_some, List, [], ◌∷◌, length, Option, Some, None, Result, Ok, Err, ⊤}
use Rattle.jsonb_spec.specs.SortKey.{key_of, text_key}
use Rattle.jsonb_spec.specs.Tree.{Tree}
use Rattle.key_document.specs.Cursor.{IsLeftBehind}
use Rattle.key_document.specs.declared.error.DocumentError.{DocumentError}
use Rattle.key_document.specs.declared.walk.Met.{Met}
use Rattle.key_document.specs.declared.walk.Walk.{Walk}
use Rattle.jsonb_spec.specs.SortKey.Events.{Event, begins, ends}
use Rattle.jsonb_spec.specs.SortKey.Found.{IsRange}
use Rattle.jsonb_spec.specs.SortKey.Open.{Open, items, members}
use Rattle.key_walk.specs.Parts.{kind_of_tree}
use Rattle.key_walk.specs.Passing.{first_named, members_from}
use Rattle.jsonb_spec.specs.SortKey.Steps.{AreOpen}
use Rattle.jsonb_spec.specs.Document.Walk.{events_left, AreMarked, IsPlace, scalar_size, value_zeros}

-- ---- what is left

-- The walk is where these are open in the value.
pub record IsWalkAt (t : Tree) (opens : List Open) (walk : Walk) : Type 0 where
  pub levels : ℕ
  pub deep : levels + walk.depth ≡ 512
  pub are_open : AreOpen opens levels
  pub marked : AreMarked opens walk.objects walk.depth
  pub place : IsPlace t opens walk.offset
  pub zeros : IsLeftBehind t walk.left
  pub passed : walk.left.passed ≤ walk.offset

-- These events are left of the value.
pub record IsWalkBefore (t : Tree) (events : List Event) (walk : Walk) : Type 0 where
  pub opens : List Open
  pub at : IsWalkAt t opens walk
  pub left : events_left opens ≡ events

-- ---- what is met

-- The name is reported, or that there is none.
abbrev pub IsNameMet : List ℕ → Option (List ℕ) → Met → Type 0
IsNameMet key (Some name) met = IsRange key met.name_offset met.name_size (text_key name)
IsNameMet key None met = met.name_size ≡ 0

-- The value is reported, with its name, and where it is in the key.
pub record IsValueMet (key : List ℕ) (name : Option (List ℕ)) (value : Tree) (met : Met) : Type 0 where
  pub kind_is : met.kind ≡ kind_of_tree value
  pub named : IsNameMet key name met
  pub occurs : IsRange key met.offset (length (key_of value)) (key_of value)
  pub size_is : met.size ≡ scalar_size value
  pub zeros_are : met.zeros ≡ value_zeros value

-- The event is reported.
abbrev pub IsMet : List ℕ → Event → Met → Type 0
IsMet key ends met = met.kind ≡ None
IsMet key (begins name value) met = IsValueMet key name value met

-- The first of these events of the value is reported, and the others are left.
abbrev pub MeetsFirst : Tree → List Event → Result Met DocumentError → Walk → Type 0
MeetsFirst t (e ∷ es) (Ok met) walk = IsMet (key_of t) e met × IsWalkBefore t es walk
MeetsFirst t events result walk = ⊥

-- The same, or that there is none.
abbrev pub MeetsNext : Tree → List Event → Result (Option Met) DocumentError → Walk → Type 0
MeetsNext t [] (Ok None) walk = ⊤
MeetsNext t (e ∷ es) (Ok (Some met)) walk = IsMet (key_of t) e met × IsWalkBefore t es walk
MeetsNext t events result walk = ⊥

-- What is left of the innermost of these is passed, or nothing is open.
abbrev pub SkipsFirst : Tree → List Open → Result Bool DocumentError → Walk → Type 0
SkipsFirst t [] result walk = result ≡ Ok false
SkipsFirst t (o ∷ under) (Ok skipped) walk = (skipped ≡ true) × IsWalkAt t under walk
SkipsFirst t (o ∷ under) (Err e) walk = ⊥

-- The walk is before the first member whose name isn't below this one, and it is reported whether that has the name. It
-- stays in an array, and where nothing is open.
abbrev pub MovesToMember : Tree → List ℕ → List Open → Result Bool DocumentError → Walk → Walk → Type 0
MovesToMember t name (members ms ∷ under) (Ok found) old new =
    (found ≡ is_some (first_named name (members_from name ms)))
    × IsWalkAt t (members (members_from name ms) ∷ under) new
MovesToMember t name (members ms ∷ under) (Err e) old new = ⊥
MovesToMember t name opens result old new = (result ≡ Ok false) × (new ≡ old)

-- Of any bytes: the ranges that are reported end before this offset.
pub record EndsWithin (size : ℕ) (met : Met) : Type 0 where
  pub name : met.name_offset + met.name_size ≤ size
  pub value : met.offset + met.size ≤ size

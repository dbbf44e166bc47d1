-- A walk over a document: what is left, and how many bytes and zeros a value has.
use Rattle.std.specs.Prelude.{◌≡◌, ℕ, zero, suc, Bool, if◌then◌else◌, List, [], ◌∷◌, ◌++◌, length, drop, get_or, ⊤}
use Rattle.jsonb_spec.specs.SortKey.{key_of}
use Rattle.jsonb_spec.specs.Tree.{Tree, number, array, object}
use Rattle.jsonb_spec.specs.Document.Counts.{count_of, counts_at, opens_counts}
use Rattle.jsonb_spec.specs.SortKey.Events.{Event, events_of_items, events_of_members}
use Rattle.jsonb_spec.specs.SortKey.Open.{Open, items, members, is_object}
use Rattle.jsonb_spec.specs.SortKey.Steps.{opens_key}

-- ---- what is left

-- the events of what is left of an array or an object
abbrev pub events_open : Open → List Event
events_open (items ts) = events_of_items ts
events_open (members ms) = events_of_members ms

-- those of all that are open, the innermost first
abbrev pub events_left : List Open → List Event
events_left [] = []
events_left (o ∷ os) = events_open o ++ events_left os

-- 1 for an object, and 0 for an array
abbrev pub kind_mark : Bool → ℕ
kind_mark of_object = if of_object then 1 else 0

-- Which of those that are open are objects is in a list of marks, the outermost first.
abbrev pub AreMarked : List Open → List ℕ → ℕ → Type 0
AreMarked [] marks zero = ⊤
AreMarked [] marks (suc depth) = ⊥
AreMarked (o ∷ os) marks zero = ⊥
AreMarked (o ∷ os) marks (suc depth) = (get_or marks depth 0 ≡ kind_mark (is_object o)) × AreMarked os marks depth

-- Behind so many bytes of the value's key these are open.
pub record IsPlace (t : Tree) (opens : List Open) (offset : ℕ) : Type 0 where
  pub before : List ℕ
  pub occurs : key_of t ≡ before ++ opens_key opens
  pub offset_is : offset ≡ length before
  pub counts : drop offset (counts_at t) ≡ opens_counts opens

-- ---- what is met

-- how many bytes the key of a value has that is neither an array nor an object
abbrev pub scalar_size : Tree → ℕ
scalar_size (array ts) = 0
scalar_size (object ms) = 0
scalar_size t = length (key_of t)

-- how many zeros end a number
abbrev pub value_zeros : Tree → ℕ
value_zeros (number n) = count_of n
value_zeros t = 0

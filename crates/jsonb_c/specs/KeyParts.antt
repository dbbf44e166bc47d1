-- What each status and each out parameter says of a sort key and its parts.
use Rattle.std.specs.Prelude.{◌≡◌, ℕ, ◌+◌, ◌≤◌, List, ◌++◌, length, Option, Some, None}
use Rattle.key_walk.specs.declared.walk.Kind.{Kind}
use Rattle.key_walk.specs.declared.walk.Kind.TheVariants as kinds
use Rattle.jsonb_spec.specs.SortKey.Found.{IsRange}
use Rattle.jsonb_spec.specs.SortKey.Open.{Open, items, members, open_key, IsOpen}
use Rattle.jsonb_spec.specs.SortKey.{key_of, text_key}
use Rattle.jsonb_spec.specs.Tree.{Tree, array, object, no_trees, more_trees, no_members, more_members}
use Rattle.jsonb_c.specs.declared.key.Cursor.{Cursor}
use Rattle.jsonb_c.specs.declared.key.Entry.{Entry}
use Rattle.jsonb_spec.specs.Interface.KeyParts.{open_number}

-- the number of a kind, 0 for none
abbrev pub kind_number : Option Kind → ℕ
kind_number None = 0
kind_number (Some kinds.Null) = 1
kind_number (Some kinds.Bool) = 2
kind_number (Some kinds.Number) = 3
kind_number (Some kinds.String) = 4
kind_number (Some kinds.Array) = 5
kind_number (Some kinds.Object) = 6

-- ---- one part after the other

-- The ranges of the name and of the value lie within the key.
pub record LiesWithin (key : List ℕ) (entry : Entry) : Type 0 where
  pub name : entry.name_offset + entry.name_size ≤ length key
  pub value : entry.offset + entry.size ≤ length key

-- The cursor is in the key where this is left of an array or an object.
pub record OccursBefore (key : List ℕ) (cursor : Cursor) (left : Open) : Type 0 where
  pub fits : IsOpen left 511
  pub kind_is : cursor.kind ≡ open_number left
  pub before : List ℕ
  pub occurs : key ≡ before ++ open_key left
  pub offset_is : cursor.offset ≡ length before

-- The status says that the cursor is before all parts of the value, or that it is neither an array nor an object.
abbrev pub IsBegun : List ℕ → Tree → ℕ → Cursor → Type 0
IsBegun key (array ts) status cursor = (status ≡ 0) × OccursBefore key cursor (items ts)
IsBegun key (object ms) status cursor = (status ≡ 0) × OccursBefore key cursor (members ms)
IsBegun key t status cursor = status ≡ 5

-- The status says that the first part that is left is there in the key, and the cursor behind it; or that none is
-- left. An item has no name.
abbrev pub IsNextPart : List ℕ → Open → ℕ → Entry → Cursor → Type 0
IsNextPart key (items no_trees) status entry cursor = status ≡ 5
IsNextPart key (items (more_trees t ts)) status entry cursor =
    (status ≡ 0) × (entry.name_size ≡ 0) × IsRange key entry.offset entry.size (key_of t)
    × OccursBefore key cursor (items ts)
IsNextPart key (members no_members) status entry cursor = status ≡ 5
IsNextPart key (members (more_members name t ms)) status entry cursor =
    (status ≡ 0) × IsRange key entry.name_offset entry.name_size (text_key name)
    × IsRange key entry.offset entry.size (key_of t) × OccursBefore key cursor (members ms)

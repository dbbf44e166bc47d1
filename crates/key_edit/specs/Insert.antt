-- What changes within a part, and where a part is inserted, in the bytes of a key.
use Rattle.std.specs.Prelude.{◌≡◌, ◌↔◌, ⊤, ℕ, Bool, List, [], ◌∷◌, ◌++◌, Option, Some, None}
use Rattle.jsonb_spec.specs.SortKey.Readable.{IsAnyNumber, IsReadable}
use Rattle.jsonb_spec.specs.Grammar.{max_depth}
use Rattle.jsonb_spec.specs.SortKey.{key_of}
use Rattle.jsonb_spec.specs.Text.Range.{IsWithin}
use Rattle.jsonb_spec.specs.Tree.{Tree}
use Rattle.jsonb_spec.specs.Edit.{Outcome, changed_part, within}
use Rattle.key_edit.specs.Spots.{SpotIn}
use Rattle.key_edit.specs.declared.slot.Slot.{Slot}
use Rattle.key_edit.specs.declared.spot.Spot.{Spot}

-- the value, changed within the part that the path leads to; itself where the path has no steps
abbrev pub changed_within : (Tree → Option Tree) → List (List ℕ) → Tree → Option Tree
changed_within change [] t = change t
changed_within change (name ∷ names) t = changed_part (within (changed_within change names)) name t

-- ---- in the bytes

-- What becomes of a part by a change, and what becomes of the value then: there is neither, or the key of the second is
-- that of the first between these bytes, and it has no more than 512 arrays and objects in one another exactly where the
-- first has no more than it may.
abbrev pub ChangesSo : List ℕ → List ℕ → ℕ → Option Tree → Option Tree → Type 0
ChangesSo front behind depth_left None None = ⊤
ChangesSo front behind depth_left None (Some u) = ⊥
ChangesSo front behind depth_left (Some part) None = ⊥
ChangesSo front behind depth_left (Some part) (Some u) =
    (key_of u ≡ front ++ (key_of part ++ behind))
    × (IsWithin IsAnyNumber u max_depth ↔ IsWithin IsAnyNumber part depth_left)

-- The part that the path leads to begins here in the key of the value, and may have so many arrays and objects in one
-- another: whatever changes within it, the value's key changes so, and the value has no more than 512 of them then
-- exactly where the part has no more than it may.
pub record IsPartWithin (t : Tree) (names : List (List ℕ)) (key bytes : List ℕ) (depth_left : ℕ) : Type 0 where
  pub part : Tree
  pub readable : IsReadable part
  pub fits : IsWithin IsAnyNumber part depth_left
  pub front : List ℕ
  pub behind : List ℕ
  pub inside : key ≡ front ++ bytes
  pub occurs : bytes ≡ key_of part ++ behind
  pub lifts : (change : Tree → Option Tree)
      → ChangesSo front behind depth_left (change part) (changed_within change names t)

-- The spot in the value whose key the bytes begin with, behind which more bytes are.
abbrev pub SpotBefore : List ℕ → ((Option Tree → Outcome) → Option Tree) → Bool → List ℕ → List ℕ → ℕ → ℕ → Spot
    → Type 0
SpotBefore more changed object name bytes depth_left inner spot =
    SpotIn (λ u. key_of u ++ more) (λ u. IsWithin IsAnyNumber u depth_left) changed object name bytes inner spot

-- The slot in that value, and what is behind the slot.
abbrev pub SlotBefore : List ℕ → ((Option Tree → Outcome) → Option Tree) → List ℕ → ℕ → Slot → Type 0
SlotBefore more changed bytes depth_left slot =
    (s : SpotBefore more changed slot.object slot.name.now bytes depth_left slot.depth_left slot.spot)
    × (s.behind ≡ slot.behind.now)

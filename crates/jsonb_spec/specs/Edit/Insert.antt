-- Values with a part inserted: between the items of an array, or as a member of an object that has none of that name.
use Rattle.std.specs.Prelude.{ℕ, zero, suc, ◌+◌, ◌-◌, nat_lt, Bool, true, false, List, [], ◌∷◌, Option, Some, None, option_map, if◌then◌else◌}
use Rattle.std.specs.Option.{option_and_then}
use Rattle.jsonb_spec.specs.Accessors.{trees_len}
use Rattle.jsonb_spec.specs.Tree.{Tree, array, object, Trees, no_trees, more_trees}
use Rattle.jsonb_spec.specs.Edit.{Outcome, stays, becomes, changed_at_member, changed_member, changed_part, item_before, remove, step_named, within}

-- a part is added where none is
abbrev pub add : Tree → Option Tree → Outcome
add part None = becomes part
add part (Some t) = stays

-- the items with what becomes of the slot before the one of that index, or at the end, where no part is
abbrev pub changed_between : (Option Tree → Outcome) → ℕ → Trees → Option Trees
changed_between change zero ts = item_before (change None) ts
changed_between change (suc index) no_trees = item_before (change None) no_trees
changed_between change (suc index) (more_trees t ts) = option_map (more_trees t) (changed_between change index ts)

-- one more where this is true
abbrev pub one_more : Bool → ℕ → ℕ
one_more true n = n + 1
one_more false n = n

-- The index of the slot before an item, or behind it, among so many items. An index that counts from the end, where 1
-- is the last, is the slot before all items where there are fewer.
abbrev pub slot_index : Bool → ℕ → Bool × ℕ → ℕ
slot_index after count (false, index) = one_more after index
slot_index after count (true, back) = if nat_lt count back then 0 else one_more after (count - back)

-- the items, changed at the slot before the item of the index that the step of a path encodes, or behind it
abbrev pub changed_slots : (Option Tree → Outcome) → Bool → List ℕ → Trees → Option Trees
changed_slots change after name ts =
    option_and_then (λ step. changed_between change (slot_index after (trees_len ts) step) ts) (step_named name)

-- the array, changed between its items at that index, or the object, changed at its member of that name
abbrev pub changed_slot : (Option Tree → Outcome) → Bool → List ℕ → Tree → Option Tree
changed_slot change after name (object ms) = option_map object (changed_member change name ms)
changed_slot change after name (array ts) = option_map array (changed_slots change after name ts)
changed_slot change after name t = None

-- the value, changed so at the slot that the path leads to; None where nothing changes
abbrev pub changed_slot_at : (Option Tree → Outcome) → Bool → List (List ℕ) → Tree → Option Tree
changed_slot_at change after [] t = None
changed_slot_at change after (name ∷ []) t = changed_slot change after name t
changed_slot_at change after (name ∷ next ∷ names) t =
    changed_part (within (changed_slot_at change after (next ∷ names))) name t

-- The value with the part inserted at the path, as `jsonb_insert` has it: in an array before the item that the last
-- step leads to, or behind it; in an object as the member of that name, where there is none. None where nothing is
-- inserted.
abbrev pub with_inserted : List (List ℕ) → Tree → Bool → Tree → Option Tree
with_inserted names part after t = changed_slot_at (add part) after names t

-- the value without the member that the path leads to; None where it leads to no member
abbrev pub without_member : List (List ℕ) → Tree → Option Tree
without_member [] t = None
without_member (name ∷ []) t = changed_at_member remove name t
without_member (name ∷ next ∷ names) t = changed_part (within (without_member (next ∷ names))) name t

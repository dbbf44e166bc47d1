-- Values with a part changed, removed or added, and both of two values in one.
pub mod LeftOut
pub mod Splices
pub mod Insert
pub mod Merging
pub mod Spots
use Rattle.std.specs.Prelude.{◌≡◌, ℕ, zero, suc, ◌-◌, ◌≤◌, ◌==◌, nat_lt, Bool, true, false, List, [], ◌∷◌, Option, Some, None, option_map, Result, OnErr, if◌then◌else◌, Vec}
use Rattle.std.specs.Option.{option_and_then}
use Rattle.std.specs.Ordering.{match_ordering}
use Rattle.std.specs.Vec.{vec_capacity}
use Rattle.std.specs.declared.alloc.Global.{Global}
use Rattle.jsonb_spec.specs.Accessors.{trees_len}
use Rattle.jsonb_spec.specs.Ascii as ascii
use Rattle.jsonb_spec.specs.Order.{bytes_cmp}
use Rattle.jsonb_spec.specs.Tree.{Tree, array, object, Trees, no_trees, more_trees, Members, no_members, more_members, put}
use Rattle.jsonb_spec.specs.PartAt.{index_named}

-- ---- one part changed

-- what becomes of a part, or of a slot where none is: it stays as it is, it goes, or this is there
pub data Outcome : Type 0 where
  stays : Outcome
  goes : Outcome
  becomes : Tree → Outcome

-- the members with what becomes of one before them; None where it stays
abbrev pub member_before : List ℕ → Outcome → Members → Option Members
member_before name stays ms = None
member_before name goes ms = Some ms
member_before name (becomes t) ms = Some (more_members name t ms)

-- the members, changed at the name
abbrev pub changed_member : (Option Tree → Outcome) → List ℕ → Members → Option Members
changed_member change name no_members = member_before name (change None) no_members
changed_member change name (more_members k t ms) =
    match_ordering (bytes_cmp name k) (member_before name (change None) (more_members k t ms))
    (member_before k (change (Some t)) ms) (option_map (more_members k t) (changed_member change name ms))

-- the items with what becomes of one before them; None where it stays
abbrev pub item_before : Outcome → Trees → Option Trees
item_before stays ts = None
item_before goes ts = Some ts
item_before (becomes t) ts = Some (more_trees t ts)

-- the items, changed at the index, or at the end where there are no more
abbrev pub changed_item : (Option Tree → Outcome) → ℕ → Trees → Option Trees
changed_item change index no_trees = item_before (change None) no_trees
changed_item change zero (more_trees t ts) = item_before (change (Some t)) ts
changed_item change (suc index) (more_trees t ts) = option_map (more_trees t) (changed_item change index ts)

-- the items, changed at the one that is so many from the end, where 1 is the last, or at the front where there are
-- fewer
abbrev pub changed_item_back : (Option Tree → Outcome) → ℕ → Trees → Option Trees
changed_item_back change back ts = if nat_lt (trees_len ts) back then item_before (change None) ts
    else changed_item change (trees_len ts - back) ts

-- how many from the end, as the bytes behind the minus sign encode it; there is no minus 0
abbrev pub back_named : List ℕ → Option ℕ
back_named digits = option_and_then (λ back. if back == 0 then None else Some back) (index_named digits)

-- an index as the step of a path encodes it: whether it counts from the end, and the number
abbrev pub step_named : List ℕ → Option (Bool × ℕ)
step_named [] = None
step_named (c ∷ cs) = if c == ascii.minus then option_map (λ back. (true, back)) (back_named cs)
    else option_map (λ index. (false, index)) (index_named (c ∷ cs))

-- the items, changed at that index
abbrev pub changed_at_step : (Option Tree → Outcome) → Trees → Bool × ℕ → Option Trees
changed_at_step change ts (false, index) = changed_item change index ts
changed_at_step change ts (true, back) = changed_item_back change back ts

-- the items, changed at the index that the step of a path encodes
abbrev pub changed_items : (Option Tree → Outcome) → List ℕ → Trees → Option Trees
changed_items change name ts = option_and_then (changed_at_step change ts) (step_named name)

-- the value, changed at its member of that name, or at its item of that index
abbrev pub changed_part : (Option Tree → Outcome) → List ℕ → Tree → Option Tree
changed_part change name (object ms) = option_map object (changed_member change name ms)
changed_part change name (array ts) = option_map array (changed_items change name ts)
changed_part change name t = None

-- the object, changed at its member of that name; None for another value
abbrev pub changed_at_member : (Option Tree → Outcome) → List ℕ → Tree → Option Tree
changed_at_member change name (object ms) = option_map object (changed_member change name ms)
changed_at_member change name t = None

-- a part in which something changes
abbrev pub part_with : Option Tree → Outcome
part_with None = stays
part_with (Some t) = becomes t

-- what becomes of a part by a change within it
abbrev pub within : (Tree → Option Tree) → Option Tree → Outcome
within change None = stays
within change (Some t) = part_with (change t)

-- the value, changed at the part that the path leads to; None where nothing changes
abbrev pub changed_at : (Option Tree → Outcome) → List (List ℕ) → Tree → Option Tree
changed_at change [] t = None
changed_at change (name ∷ []) t = changed_part change name t
changed_at change (name ∷ next ∷ names) t = changed_part (within (changed_at change (next ∷ names))) name t

-- ---- removed and set

-- a part that is there goes
abbrev pub remove : Option Tree → Outcome
remove None = stays
remove (Some t) = goes

-- the value without the part at the path, as jsonb `#-` has it; None where there is no such part
abbrev pub without_part : List (List ℕ) → Tree → Option Tree
without_part names t = changed_at remove names t

-- the new part is where one is, or where none is if it may be made
abbrev pub set_to : Tree → Bool → Option Tree → Outcome
set_to part create None = if create then becomes part else stays
set_to part create (Some t) = becomes part

-- the value with this part at the path, as `jsonb_set` has it; None where there is no such slot
abbrev pub with_part : List (List ℕ) → Tree → Bool → Tree → Option Tree
with_part names part create t = changed_at (set_to part create) names t

-- the object with this member; None for another value
abbrev pub with_member : List ℕ → Tree → Tree → Option Tree
with_member name part (object ms) = Some (object (put name part ms))
with_member name part t = None

-- ---- merged

-- the members of both, where those of the second win
abbrev pub merged_members : Members → Members → Members
merged_members ms no_members = ms
merged_members ms (more_members k t ns) = merged_members (put k t ms) ns

-- the items of both
abbrev pub joined_items : Trees → Trees → Trees
joined_items no_trees us = us
joined_items (more_trees t ts) us = more_trees t (joined_items ts us)

-- the items of an array; another value is an item
abbrev pub as_items : Tree → Trees
as_items (array ts) = ts
as_items t = more_trees t no_trees

-- both values in one, as jsonb `||` has it
abbrev pub merge : Tree → Tree → Tree
merge (object ms) (object ns) = object (merged_members ms ns)
merge t u = array (joined_items (as_items t) (as_items u))

-- the array with this item at its end; None for another value
abbrev pub with_item : Tree → Tree → Option Tree
with_item part (array ts) = Some (array (joined_items ts (more_trees part no_trees)))
with_item part t = None

-- ---- what is appended

-- After an error the buffer has its old bytes, and its capacity doesn't shrink.
pub record PreservesOnError {X E : Type 0} (result : Result X E) (old new : Vec ℕ Global) : Type 0 where
  pub err : OnErr result (new.items ≡ old.items)
  pub capacity : vec_capacity old ≤ vec_capacity new

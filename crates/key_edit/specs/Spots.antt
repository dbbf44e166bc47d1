-- Where in the bytes a part is, or would be.
use Rattle.std.specs.Prelude.{◌≡◌, ℕ, zero, suc, ◌-◌, nat_lt, Bool, true, false, List, ◌++◌, Option, Some, None, option_map, if◌then◌else◌, IfSome, MatchOption, MatchResult, Result, Ok, ⊤}
use Rattle.std.specs.Borrow.{Bor}
use Rattle.jsonb_spec.specs.Accessors.{trees_len}
use Rattle.jsonb_spec.specs.SortKey.Readable.{IsAnyNumber, IsReadable}
use Rattle.key_walk.specs.AtKeys.{AtItems}
use Rattle.jsonb_spec.specs.SortKey.Open.{Open, items, members, name_key, open_key}
use Rattle.key_walk.specs.declared.find.NoKey.{NoKey}
use Rattle.jsonb_spec.specs.Grammar.{max_depth}
use Rattle.jsonb_spec.specs.SortKey.{key_of, items_key, members_key}
use Rattle.jsonb_spec.specs.Text.Range.{IsWithin, AreWithin, HaveWithin}
use Rattle.jsonb_spec.specs.Tree.{Tree, array, Trees, no_trees, more_trees, no_members, more_members}
use Rattle.jsonb_spec.specs.Edit.{Outcome, changed_member, changed_items}
use Rattle.key_edit.specs.declared.slot.Slot.{Slot}
use Rattle.key_edit.specs.declared.spot.Spot.{Spot}
use Rattle.jsonb_spec.specs.Edit.Insert.{changed_between}
use Rattle.jsonb_spec.specs.Edit.Spots.{Answers}

-- what is left has no more arrays and objects in one another than the number
abbrev pub OpenWithin : Open → ℕ → Type 0
OpenWithin (items ts) depth = AreWithin IsAnyNumber ts depth
OpenWithin (members ms) depth = HaveWithin IsAnyNumber ms depth

-- the array or the object, changed at the member of that name, or at the item of that index
abbrev pub changed_open : (Option Tree → Outcome) → List ℕ → Open → Option Open
changed_open change name (items ts) = option_map items (changed_items change name ts)
changed_open change name (members ms) = option_map members (changed_member change name ms)

-- What is reported of what is left of an array or an object: the bytes from the value of the first part on; or nothing
-- where no part is left.
abbrev pub OccursFirst : Open → List ℕ → Result (Option (Bor (List ℕ))) NoKey → Type 0
OccursFirst (items no_trees) more (Ok None) = ⊤
OccursFirst (items (more_trees t ts)) more (Ok (Some reported)) = reported.now ≡ key_of t ++ (items_key ts ++ more)
OccursFirst (members no_members) more (Ok None) = ⊤
OccursFirst (members (more_members key t ms)) more (Ok (Some reported)) = reported.now ≡ key_of t ++ (members_key ms ++ more)
OccursFirst o more reported = ⊥

-- These bytes are reported.
abbrev pub ReportsBehind : List ℕ → Result (Bor (List ℕ)) NoKey → Type 0
ReportsBehind more result = MatchResult result (λ rest. rest.now ≡ more) (λ e. ⊥)

-- The part is there, with its name before it and these bytes behind it; or it would be there, where none is.
abbrev pub Occurs : Bool → List ℕ → Spot → List ℕ → Option Tree → Type 0
Occurs object name spot behind None = (spot.found ≡ false) × (spot.entry.now ≡ behind)
Occurs object name spot behind (Some t) =
    (spot.found ≡ true) × (spot.entry.now ≡ name_key object name ++ spot.value.now)
    × (spot.value.now ≡ key_of t ++ behind)

-- The spot in the bytes at which changes are made: whatever becomes of the part there, what is answered is so.
pub record SpotIn {A : Type 0} (key : A → List ℕ) (Fits : A → Type 0) (changed : (Option Tree → Outcome) → Option A)
    (object : Bool) (asked bytes : List ℕ) (depth_left : ℕ) (spot : Spot) : Type 0 where
  pub there : Option Tree
  pub name : List ℕ
  pub front : List ℕ
  pub behind : List ℕ
  pub inside : bytes ≡ front ++ spot.entry.now
  pub occurs : Occurs object name spot behind there
  pub named : there ≡ None → name ≡ asked
  pub readable : IfSome there IsReadable
  pub fits : IfSome there (λ t. IsWithin IsAnyNumber t depth_left)
  pub answers : (change : Option Tree → Outcome)
      → Answers key Fits object name front behind depth_left (change there) (changed change)

-- The spot among the parts that are left of an array or an object, behind whose end more bytes are.
abbrev pub OpenSpotIn : ((Option Tree → Outcome) → Option Open) → Bool → List ℕ → List ℕ → List ℕ → ℕ → Spot → Type 0
OpenSpotIn changed object asked bytes more depth_left spot =
    SpotIn (λ o. open_key o ++ more) (λ o. OpenWithin o depth_left) changed object asked bytes depth_left spot

-- the items from the one of that index on
abbrev pub items_from : ℕ → Trees → Trees
items_from zero ts = ts
items_from (suc index) no_trees = no_trees
items_from (suc index) (more_trees t ts) = items_from index ts

-- the index among so many items that the step of a path encodes; None where there are fewer from the end
abbrev pub index_in : ℕ → Bool × ℕ → Option ℕ
index_in count (false, index) = Some index
index_in count (true, back) = if nat_lt count back then None else Some (count - back)

-- the array, changed behind its last item; None for another value
abbrev pub changed_end : (Option Tree → Outcome) → Tree → Option Tree
changed_end change (array ts) = option_map array (changed_between change (trees_len ts) ts)
changed_end change t = None

-- What is reported of the items: those from the one of that index on, where there is an index.
abbrev pub LeavesItems : Trees → List ℕ → Option ℕ → Option (Bor (List ℕ)) → Type 0
LeavesItems ts more None None = ⊤
LeavesItems ts more (Some index) (Some rest) = rest.now ≡ items_key (items_from index ts) ++ more
LeavesItems ts more index answer = ⊥

-- Whichever items the bytes begin with, those are reported from the one on that the step of a path encodes.
abbrev pub FindsItems : List ℕ → Bool × ℕ → Result (Option (Bor (List ℕ))) NoKey → Type 0
FindsItems bytes step result =
    AtItems bytes (λ ts more. MatchResult result (LeavesItems ts more (index_in (trees_len ts) step)) (λ e. ⊥))

-- The slot in the key at which changes are made, and what is behind it.
abbrev pub SlotIn : ((Option Tree → Outcome) → Option Tree) → List ℕ → Slot → Type 0
SlotIn changed key slot =
    (s : SpotIn key_of (λ t. IsWithin IsAnyNumber t max_depth) changed slot.object slot.name.now key slot.depth_left
    slot.spot) × (s.behind ≡ slot.behind.now)

-- What is reported is the slot at which changes are made; or there is none, and nothing changes whatever is asked for.
abbrev pub FindsSlot : ((Option Tree → Outcome) → Option Tree) → List ℕ → Option Slot → Type 0
FindsSlot changed key answer =
    MatchOption answer ((change : Option Tree → Outcome) → changed change ≡ None) (SlotIn changed key)

-- Well-formed values, changed.
use Rattle.std.proofs.Common.{◌≡◌, ℕ, zero, suc, ◌-◌, nat_lt, Bool, true, false, List, [], ◌∷◌, Option, Some, None, option_map, IfSome, Ordering, Less, Equal, Greater, if◌then◌else◌, refl, ap, subst, ◌∙◌}
use Rattle.std.specs.Bool.{⊤}
use Rattle.std.specs.Cmp.Lexicographic.{nat_list_cmp_total}
use Rattle.std.specs.List.{AllByRecursion}
use Rattle.std.specs.Option.{option_and_then}
use Rattle.std.specs.Ordering.{match_ordering, ordering_reverse}
use Rattle.std.specs.Str.{IsUtf8}
use Rattle.jsonb_spec.specs.Accessors.{trees_len}
use Rattle.jsonb_spec.specs.Keys.{IsBelowKeys, KeysAscend}
use Rattle.jsonb_spec.specs.Order.{bytes_cmp}
use Rattle.jsonb_spec.specs.Proper.{IsProper, AreProper, HaveProperParts}
use Rattle.jsonb_spec.specs.Tree.{Tree, array, object, Trees, no_trees, more_trees, Members, no_members, more_members, put}
use Rattle.jsonb_spec.specs.Edit.{Outcome, stays, goes, becomes, as_items, changed_at, changed_at_step, changed_item, changed_member, changed_part, item_before, joined_items, member_before, merge, merged_members, part_with, remove, set_to, step_named, with_item, with_member, with_part, within, without_part}
use Rattle.jsonb_spec.specs.Edit.Insert.{add, changed_between, changed_slot, changed_slot_at, slot_index, with_inserted}
use Rattle.key_edit.proofs.Built.{set_member}

-- what a change makes of a well-formed part is well-formed
abbrev IsGood : Outcome → Type 0
IsGood stays = ⊤
IsGood goes = ⊤
IsGood (becomes t) = IsProper t

abbrev PreservesProper : (Option Tree → Outcome) → Type 0
PreservesProper change = (there : Option Tree) → IfSome there IsProper → IsGood (change there)

-- ---- members

abbrev AreGood : Members → Type 0
AreGood ms = KeysAscend ms × HaveProperParts ms

member_good : (name : List ℕ) (outcome : Outcome) (ms : Members) → IsUtf8 name → IsGood outcome → IsBelowKeys name ms → AreGood ms → IfSome (member_before name outcome ms) AreGood
member_good name stays ms n g b h = tt
member_good name goes ms n g b h = h
member_good name (becomes t) ms n g b h = ((b, h.0), (n, g, h.1))

below_before : (k name : List ℕ) (outcome : Outcome) (ms : Members) → bytes_cmp k name ≡ Less → IsBelowKeys k ms → IfSome (member_before name outcome ms) (IsBelowKeys k)
below_before k name stays ms less b = tt
below_before k name goes ms less b = b
below_before k name (becomes t) ms less b = (less, b)

below_further : (k : List ℕ) (l : List ℕ) (t : Tree) (x : Option Members) → bytes_cmp k l ≡ Less → IfSome x (IsBelowKeys k) → IfSome (option_map (more_members l t) x) (IsBelowKeys k)
below_further k l t None less b = tt
below_further k l t (Some ms) less b = (less, b)

-- what is below the name and the others, is below them when they are changed
below_changed : (k name : List ℕ) (change : Option Tree → Outcome) (ms : Members) → bytes_cmp k name ≡ Less → IsBelowKeys k ms → IfSome (changed_member change name ms) (IsBelowKeys k)
below_changed k name change no_members less b = below_before k name (change None) no_members less b
below_changed k name change (more_members l t ms) less b = go (bytes_cmp name l) (below_changed k name change ms less b.1)
  where
    go : (o : Ordering) → IfSome (changed_member change name ms) (IsBelowKeys k) → IfSome (match_ordering o (member_before name (change None) (more_members l t ms)) (member_before l (change (Some t)) ms) (option_map (more_members l t) (changed_member change name ms))) (IsBelowKeys k)
    go Less others = below_before k name (change None) (more_members l t ms) less b
    go Equal others = below_before k l (change (Some t)) ms b.0 b.1
    go Greater others = below_further k l t (changed_member change name ms) b.0 others

pub below_rest : (k l : List ℕ) (ns : Members) → bytes_cmp k l ≡ Less → IsBelowKeys l ns → IsBelowKeys k ns
below_rest k l no_members h b = tt
below_rest k l (more_members m u ns) h b = (nat_list_cmp_total.trans k l m h b.0, below_rest k l ns h b.1)

behind_good : (l : List ℕ) (t : Tree) (x : Option Members) → IsUtf8 l → IsProper t → IfSome x (IsBelowKeys l) → IfSome x AreGood → IfSome (option_map (more_members l t) x) AreGood
behind_good l t None u p b h = tt
behind_good l t (Some ms) u p b h = ((b, h.0), (u, p, h.1))

other_way : (k l : List ℕ) → bytes_cmp k l ≡ Greater → bytes_cmp l k ≡ Less
other_way k l e = nat_list_cmp_total.antisymm l k ∙ ap ordering_reverse e

members_good : (name : List ℕ) (change : Option Tree → Outcome) (ms : Members) → IsUtf8 name → PreservesProper change → AreGood ms → IfSome (changed_member change name ms) AreGood
members_good name change no_members n g h = member_good name (change None) no_members n (g None tt) tt h
members_good name change (more_members l t ms) n g h = go (bytes_cmp name l) refl (members_good name change ms n g (h.0.1, h.1.2))
  where
    go : (o : Ordering) → bytes_cmp name l ≡ o → IfSome (changed_member change name ms) AreGood → IfSome (match_ordering o (member_before name (change None) (more_members l t ms)) (member_before l (change (Some t)) ms) (option_map (more_members l t) (changed_member change name ms))) AreGood
    go Less e others = member_good name (change None) (more_members l t ms) n (g None tt) (e, below_rest name l ms e h.0.0) h
    go Equal e others = member_good l (change (Some t)) ms h.1.0 (g (Some t) h.1.1) h.0.0 (h.0.1, h.1.2)
    go Greater e others = behind_good l t (changed_member change name ms) h.1.0 h.1.1 (below_changed l name change ms (other_way name l e) h.0.0) others

-- ---- items

item_good : (outcome : Outcome) (ts : Trees) → IsGood outcome → AreProper ts → IfSome (item_before outcome ts) AreProper
item_good stays ts g h = tt
item_good goes ts g h = h
item_good (becomes t) ts g h = (g, h)

further_good : (t : Tree) (x : Option Trees) → IsProper t → IfSome x AreProper → IfSome (option_map (more_trees t) x) AreProper
further_good t None p h = tt
further_good t (Some ts) p h = (p, h)

items_good : (change : Option Tree → Outcome) (index : ℕ) (ts : Trees) → PreservesProper change → AreProper ts → IfSome (changed_item change index ts) AreProper
items_good change index no_trees g h = item_good (change None) no_trees (g None tt) h
items_good change zero (more_trees t ts) g h = item_good (change (Some t)) ts (g (Some t) h.0) h.1
items_good change (suc index) (more_trees t ts) g h = further_good t (changed_item change index ts) h.0 (items_good change index ts g h.1)

step_good : (change : Option Tree → Outcome) (ts : Trees) (step : Bool × ℕ) → PreservesProper change → AreProper ts → IfSome (changed_at_step change ts step) AreProper
step_good change ts (false, index) g h = items_good change index ts g h
step_good change ts (true, back) g h = go (nat_lt (trees_len ts) back)
  where
    go : (b : Bool) → IfSome (if b then item_before (change None) ts else changed_item change (trees_len ts - back) ts) AreProper
    go true = item_good (change None) ts (g None tt) h
    go false = items_good change (trees_len ts - back) ts g h

array_good : (x : Option Trees) → IfSome x AreProper → IfSome (option_map array x) IsProper
array_good None h = tt
array_good (Some ts) h = h

object_good : (x : Option Members) → IfSome x AreGood → IfSome (option_map object x) IsProper
object_good None h = tt
object_good (Some ms) h = h

by_step_good : (change : Option Tree → Outcome) (ts : Trees) (x : Option (Bool × ℕ)) → PreservesProper change → AreProper ts → IfSome (option_map array (option_and_then (changed_at_step change ts) x)) IsProper
by_step_good change ts None g h = tt
by_step_good change ts (Some step) g h = array_good (changed_at_step change ts step) (step_good change ts step g h)

part_good : (change : Option Tree → Outcome) (name : List ℕ) (t : Tree) → IsUtf8 name → PreservesProper change → IsProper t → IfSome (changed_part change name t) IsProper
part_good change name (object ms) n g h = object_good (changed_member change name ms) (members_good name change ms n g h)
part_good change name (array ts) n g h = by_step_good change ts (step_named name) g h
part_good change name t n g h = tt

-- ---- paths

with_good : (x : Option Tree) → IfSome x IsProper → IsGood (part_with x)
with_good None h = tt
with_good (Some t) h = h

within_good : (change : Tree → Option Tree) → ((t : Tree) → IsProper t → IfSome (change t) IsProper) → PreservesProper (within change)
within_good change g None h = tt
within_good change g (Some t) h = with_good (change t) (g t h)

path_good : (change : Option Tree → Outcome) (names : List (List ℕ)) → AllByRecursion IsUtf8 names → PreservesProper change → (t : Tree) → IsProper t → IfSome (changed_at change names t) IsProper
path_good change [] n g t h = tt
path_good change (name ∷ []) n g t h = part_good change name t n.0 g h
path_good change (name ∷ next ∷ names) n g t h = part_good (within (changed_at change (next ∷ names))) name t n.0 (within_good (changed_at change (next ∷ names)) (path_good change (next ∷ names) n.1 g)) h

-- ---- between items

between_good : (change : Option Tree → Outcome) (index : ℕ) (ts : Trees) → PreservesProper change → AreProper ts → IfSome (changed_between change index ts) AreProper
between_good change zero ts g h = item_good (change None) ts (g None tt) h
between_good change (suc index) no_trees g h = item_good (change None) no_trees (g None tt) h
between_good change (suc index) (more_trees t ts) g h = further_good t (changed_between change index ts) h.0 (between_good change index ts g h.1)

slots_good : (change : Option Tree → Outcome) (after : Bool) (ts : Trees) (x : Option (Bool × ℕ)) → PreservesProper change → AreProper ts → IfSome (option_map array (option_and_then (λ step. changed_between change (slot_index after (trees_len ts) step) ts) x)) IsProper
slots_good change after ts None g h = tt
slots_good change after ts (Some step) g h = array_good (changed_between change (slot_index after (trees_len ts) step) ts) (between_good change (slot_index after (trees_len ts) step) ts g h)

slot_good : (change : Option Tree → Outcome) (after : Bool) (name : List ℕ) (t : Tree) → IsUtf8 name → PreservesProper change → IsProper t → IfSome (changed_slot change after name t) IsProper
slot_good change after name (object ms) n g h = object_good (changed_member change name ms) (members_good name change ms n g h)
slot_good change after name (array ts) n g h = slots_good change after ts (step_named name) g h
slot_good change after name t n g h = tt

slot_path_good : (change : Option Tree → Outcome) (after : Bool) (names : List (List ℕ)) → AllByRecursion IsUtf8 names → PreservesProper change → (t : Tree) → IsProper t → IfSome (changed_slot_at change after names t) IsProper
slot_path_good change after [] n g t h = tt
slot_path_good change after (name ∷ []) n g t h = slot_good change after name t n.0 g h
slot_path_good change after (name ∷ next ∷ names) n g t h = part_good (within (changed_slot_at change after (next ∷ names))) name t n.0 (within_good (changed_slot_at change after (next ∷ names)) (slot_path_good change after (next ∷ names) n.1 g)) h

of_some : (x : Option Tree) (u : Tree) → IfSome x IsProper → x ≡ Some u → IsProper u
of_some None u h e = absurd (none_some u e)
  where
    none_some : (u : Tree) → None ≡ Some u → ⊥
    none_some u e = cc
of_some (Some t) u h e = subst IsProper (same t u e) h
  where
    same : (t u : Tree) → Some t ≡ Some u → t ≡ u
    same t u e = cc

set_good : (part : Tree) (create : Bool) → IsProper part → PreservesProper (set_to part create)
set_good part true p None h = p
set_good part false p None h = tt
set_good part create p (Some t) h = p

pub set_proper : (names : List (List ℕ)) → AllByRecursion IsUtf8 names → (t part u : Tree) (create : Bool) → IsProper t → IsProper part → with_part names part create t ≡ Some u → IsProper u
set_proper names n t part u create h p e = of_some (with_part names part create t) u (path_good (set_to part create) names n (set_good part create p) t h) e

add_good : (part : Tree) → IsProper part → PreservesProper (add part)
add_good part p None h = p
add_good part p (Some t) h = tt

pub inserted_proper : (names : List (List ℕ)) → AllByRecursion IsUtf8 names → (t part u : Tree) (after : Bool) → IsProper t → IsProper part → with_inserted names part after t ≡ Some u → IsProper u
inserted_proper names n t part u after h p e = of_some (with_inserted names part after t) u (slot_path_good (add part) after names n (add_good part p) t h) e

remove_good : PreservesProper remove
remove_good None h = tt
remove_good (Some t) h = tt

pub removed_proper : (names : List (List ℕ)) → AllByRecursion IsUtf8 names → (t u : Tree) → IsProper t → without_part names t ≡ Some u → IsProper u
removed_proper names n t u h e = of_some (without_part names t) u (path_good remove names n remove_good t h) e

-- ---- merged

put_good : (k : List ℕ) (t : Tree) (ms : Members) → IsUtf8 k → IsProper t → AreGood ms → AreGood (put k t ms)
put_good k t ms n p h = subst (λ x. IfSome x AreGood) (set_member k t ms) (members_good k (set_to t true) ms n (set_good t true p) h)

merged_good : (ms ns : Members) → AreGood ms → HaveProperParts ns → AreGood (merged_members ms ns)
merged_good ms no_members h i = h
merged_good ms (more_members k t ns) h i = merged_good (put k t ms) ns (put_good k t ms i.0 i.1 h) i.2

joined_good : (ts us : Trees) → AreProper ts → AreProper us → AreProper (joined_items ts us)
joined_good no_trees us h i = i
joined_good (more_trees t ts) us h i = (h.0, joined_good ts us h.1 i)

as_items_good : (t : Tree) → IsProper t → AreProper (as_items t)
as_items_good (array ts) h = h
as_items_good t h = (h, tt)

pub merged_proper : (t u : Tree) → IsProper t → IsProper u → IsProper (merge t u)
merged_proper (object ms) (object ns) h i = merged_good ms ns h i.1
merged_proper (object ms) u h i = joined_good (as_items (object ms)) (as_items u) (h, tt) (as_items_good u i)
merged_proper t u h i = joined_good (as_items t) (as_items u) (as_items_good t h) (as_items_good u i)

-- ---- a part more

pub member_proper : (name : List ℕ) → IsUtf8 name → (t part u : Tree) → IsProper t → IsProper part → with_member name part t ≡ Some u → IsProper u
member_proper name n t part u h p e = of_some (with_member name part t) u (go t h) e
  where
    go : (t : Tree) → IsProper t → IfSome (with_member name part t) IsProper
    go (object ms) h = put_good name part ms n p h
    go t h = tt

pub item_proper : (t part u : Tree) → IsProper t → IsProper part → with_item part t ≡ Some u → IsProper u
item_proper t part u h p e = of_some (with_item part t) u (go t h) e
  where
    go : (t : Tree) → IsProper t → IfSome (with_item part t) IsProper
    go (array ts) h = joined_good ts (more_trees part no_trees) h (p, tt)
    go t h = tt

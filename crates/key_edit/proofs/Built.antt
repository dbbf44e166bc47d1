-- Objects and arrays with a part more.
use Rattle.std.proofs.Common.{◌≡◌, ℕ, true, List, [], ◌∷◌, Option, Some, None, option_map, Ordering, Less, Equal, Greater, refl, sym, ap, ◌∙◌, append-nil, arith}
use Rattle.std.specs.Ordering.{match_ordering}
use Rattle.jsonb_spec.specs.Grammar.{max_depth}
use Rattle.jsonb_spec.specs.SortKey.Open.{members, IsScalar}
use Rattle.jsonb_spec.specs.Order.{bytes_cmp}
use Rattle.jsonb_spec.specs.SortKey.{key_of, items_key, members_key}
use Rattle.jsonb_spec.specs.Tree.{Tree, null, boolean, string, number, array, object, binary, date, timestamp, timestamp_tz, interval, Trees, no_trees, more_trees, Members, no_members, more_members, put}
use Rattle.jsonb_spec.specs.Edit.{Outcome, becomes, changed_at_member, changed_member, joined_items, set_to, with_item, with_member}
use Rattle.jsonb_spec.specs.Edit.Insert.{changed_between}
use Rattle.jsonb_spec.specs.Accessors.{trees_len}
use Rattle.key_edit.specs.Spots.{SpotIn, changed_end}
use Rattle.key_edit.specs.declared.spot.Spot.{Spot}
use Rattle.jsonb_core.proofs.Trees.Runs.{heads}
use Rattle.key_edit.proofs.Lifting.{Lifts}
use Rattle.key_edit.proofs.Located.{tree_fits}
use Rattle.key_edit.proofs.Spotted.{fits_in, key_before, lifted_spot}

-- ---- objects

one_of : (o : Ordering) (a b c : Members) → match_ordering o (Some a) (Some b) (Some c) ≡ Some (match_ordering o a b c)
one_of Less a b c = refl
one_of Equal a b c = refl
one_of Greater a b c = refl

pub set_member : (k : List ℕ) (u : Tree) (ms : Members) → changed_member (set_to u true) k ms ≡ Some (put k u ms)
set_member k u no_members = refl
set_member k u (more_members l t ms) =
    ap (λ x. match_ordering (bytes_cmp k l) (Some (more_members k u (more_members l t ms))) (Some (more_members l u ms)) (option_map (more_members l t) x)) (set_member k u ms)
    ∙ one_of (bytes_cmp k l) (more_members k u (more_members l t ms)) (more_members l u ms) (more_members l t (put k u ms))

-- a spot among the members is one in the object
pub object_spot : (name key rest : List ℕ) (ms : Members) (spot : Spot) → key ≡ 0xD1 ∷ rest → SpotIn (key_before []) (fits_in 511) (λ change. option_map members (changed_member change name ms)) true name rest 511 spot
    → SpotIn key_of (tree_fits max_depth) (λ change. changed_at_member change name (object ms)) true name key 511 spot
object_spot name key rest ms spot begins = lifted_spot (key_before []) (fits_in 511) key_of (tree_fits max_depth) (λ change. option_map members (changed_member change name ms)) (λ change. changed_at_member change name (object ms)) true name (0xD1 ∷ []) key rest 511 spot begins (λ change. bare (changed_member change name ms))
  where
    bare : (x : Option Members) → Lifts (key_before []) (fits_in 511) key_of (tree_fits max_depth) (0xD1 ∷ []) (option_map members x) (option_map object x)
    bare None = tt
    bare (Some ns) = (ap (λ l. 0xD1 ∷ l) (sym (append-nil (members_key ns))), (λ h. h, λ h. h))

-- the object with the member is the one changed at its name
pub member_set : (name : List ℕ) (u t : Tree) → changed_at_member (set_to u true) name t ≡ with_member name u t
member_set name u (object ms) = ap (option_map object) (set_member name u ms)
member_set name u null = refl
member_set name u (boolean b) = refl
member_set name u (string mark bytes) = refl
member_set name u (number n) = refl
member_set name u (array ts) = refl
member_set name u (binary bytes) = refl
member_set name u (date days) = refl
member_set name u (timestamp micros) = refl
member_set name u (timestamp_tz offset micros) = refl
member_set name u (interval months days micros) = refl

-- no member is in another value
pub scalar_slot : (name : List ℕ) (t : Tree) → IsScalar t → (change : Option Tree → Outcome) → changed_at_member change name t ≡ None
scalar_slot name (array ts) s change = refl
scalar_slot name (object ms) s change = absurd s
scalar_slot name t s change = refl

pub array_slot : (name key rest : List ℕ) (t : Tree) → key ≡ key_of t → key ≡ 0xD2 ∷ rest → (change : Option Tree → Outcome) → changed_at_member change name t ≡ None
array_slot name key rest (object ms) e begins change = absurd (let h : 0xD1 ≡ 0xD2 = heads 0xD1 0xD2 (members_key ms) rest (sym e ∙ begins) in omega (arith, h))
array_slot name key rest t e begins change = refl

-- the spot of a member in the key of a value, and what is behind it
abbrev pub MemberSpot : Tree → List ℕ → List ℕ → Spot → List ℕ → Type 0
MemberSpot t name key spot behind = (s : SpotIn key_of (tree_fits max_depth) (λ change. changed_at_member change name t) true name key 511 spot) × (s.behind ≡ behind)

pub set_always : (u : Tree) (there : Option Tree) → set_to u true there ≡ becomes u
set_always u None = refl
set_always u (Some t) = refl

-- ---- arrays

end_items : (u : Tree) (ts : Trees) → changed_between (set_to u true) (trees_len ts) ts ≡ Some (joined_items ts (more_trees u no_trees))
end_items u no_trees = refl
end_items u (more_trees t ts) = ap (option_map (more_trees t)) (end_items u ts)

-- the array with the item is the one changed behind its last item
pub item_set : (u t : Tree) → changed_end (set_to u true) t ≡ with_item u t
item_set u (array ts) = ap (option_map array) (end_items u ts)
item_set u t = refl

-- no item is in another value
pub scalar_end : (t : Tree) → IsScalar t → (change : Option Tree → Outcome) → changed_end change t ≡ None
scalar_end (array ts) s change = absurd s
scalar_end t s change = refl

pub object_end : (key rest : List ℕ) (t : Tree) → key ≡ key_of t → key ≡ 0xD1 ∷ rest → (change : Option Tree → Outcome) → changed_end change t ≡ None
object_end key rest (array ts) e begins change = absurd (let h : 0xD2 ≡ 0xD1 = heads 0xD2 0xD1 (items_key ts) rest (sym e ∙ begins) in omega (arith, h))
object_end key rest t e begins change = refl

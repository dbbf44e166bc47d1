-- What a copy whose strings are owned has of its source: items, members, keys that ascend.
use Rattle.std.proofs.Common.{◌≡◌, ℕ, List, [], ◌∷◌, map, string_bytes, refl, ap, ◌∙◌}
use Rattle.jsonb_spec.specs.Keys.{IsBelowKeys, KeysAscend}
use Rattle.jsonb_spec.specs.Owned.{owned_tree, owned_items, owned_members}
use Rattle.jsonb_spec.specs.Tree.{Member, Members, no_members, more_members, trees_of, more_trees}
use Rattle.jsonb_value.specs.View.{view, trees_view, members_view, pairs_view}
use Rattle.jsonb_value.specs.declared.value.Value.{Value}
use Rattle.jsonb_value.proofs.Values.Built.{members_of_pairs, members_view-pairs_view}
use Rattle.jsonb_value.proofs.Values.Members.{Entry}

-- each key with its value's tree, the strings of which are owned
abbrev pub owned_pairs : List Entry → List Member
owned_pairs es = map (λ m. (string_bytes m.0, owned_tree (view m.1))) es

pub owned_items-trees_view : (vs : List Value) → trees_of (map (λ v. owned_tree (view v)) vs) ≡ owned_items (trees_view vs)
owned_items-trees_view [] = refl
owned_items-trees_view (v ∷ vs) = ap (more_trees (owned_tree (view v))) (owned_items-trees_view vs)

from_owned_pairs : (es : List Entry) → members_of_pairs (owned_pairs es) ≡ owned_members (members_view es)
from_owned_pairs [] = refl
from_owned_pairs (e ∷ es) = ap (more_members (string_bytes e.0) (owned_tree (view e.1))) (from_owned_pairs es)

-- pairs that are those of the entries with owned strings are the members with owned strings
pub members_view-owned : (es fs : List Entry) → pairs_view es ≡ owned_pairs fs → members_view es ≡ owned_members (members_view fs)
members_view-owned es fs h = members_view-pairs_view es ∙ ap members_of_pairs h ∙ from_owned_pairs fs

below_owned : (k : List ℕ) (ms : Members) → IsBelowKeys k ms → IsBelowKeys k (owned_members ms)
below_owned k no_members h = tt
below_owned k (more_members l t ms) h = (h.0, below_owned k ms h.1)

pub KeysAscend-owned : (ms : Members) → KeysAscend ms → KeysAscend (owned_members ms)
KeysAscend-owned no_members h = tt
KeysAscend-owned (more_members k t ms) h = (below_owned k ms h.0, KeysAscend-owned ms h.1)

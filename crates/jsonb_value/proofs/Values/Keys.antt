-- The keys of a map's entries ascend, and so do those of its members.
use Rattle.std.proofs.Common.{◌≡◌, ℕ, List, [], ◌∷◌, Less, string_bytes, string_cmp, nat_cmp}
use Rattle.std.specs.Cmp.Lexicographic.{slice_cmp}
use Rattle.std.specs.List.{AllByRecursion}
use Rattle.std.specs.List.Sorted.{IsStrictlySortedBy}
use Rattle.std.specs.Map.{keys_of}
use Rattle.jsonb_spec.specs.Keys.{IsBelowKeys, KeysAscend}
use Rattle.jsonb_value.specs.View.{members_view}
use Rattle.jsonb_value.proofs.Values.Members.{Entry}

below_keys : (k : List ℕ) (es : List Entry) → AllByRecursion (λ y. slice_cmp nat_cmp k (string_bytes y) ≡ Less) (keys_of es) → IsBelowKeys k (members_view es)
below_keys k [] h = tt
below_keys k (e ∷ es) h = (h.0, below_keys k es h.1)

-- `ordered` of a call on the map gives the premise
pub KeysAscend-members_view : (es : List Entry) → IsStrictlySortedBy string_cmp (keys_of es) → KeysAscend (members_view es)
unfolding IsStrictlySortedBy
KeysAscend-members_view [] h = tt
KeysAscend-members_view (e ∷ es) h = (below_keys (string_bytes e.0) es h.0, KeysAscend-members_view es h.1)

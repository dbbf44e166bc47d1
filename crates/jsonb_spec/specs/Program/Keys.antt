-- The parts of a text, the key that it is sorted by, and the order that this gives.
use Rattle.std.specs.Prelude.{◌≡◌, ℕ, ◌+◌, Bool, List, [], ◌∷◌, map, None, Some, Option, string_bytes, String, MatchBool, Vec}
use Rattle.std.specs.List.{AllZip}
use Rattle.std.specs.declared.alloc.Global.{Global}
use Rattle.std.specs.declared.cmp.Ordering.{Ordering}
use Rattle.std.specs.declared.cmp.Ordering.TheVariants.{Less, Equal, Greater}
use Rattle.jsonb_spec.specs.Order.{tree_cmp}
use Rattle.jsonb_spec.specs.SortKey.{key_of}
use Rattle.jsonb_spec.specs.Tree.{Tree}

-- the keys of a path
abbrev pub keys_of : Vec (String Global) Global → List (List ℕ)
keys_of path = map string_bytes path.items

-- the sort key of a part, and where it is absent a byte below those with which sort keys begin
abbrev pub part_key : Option Tree → List ℕ
part_key None = 0 ∷ []
part_key (Some part) = key_of part

-- the same bytes, or downwards each turned round: it and the other make 255
abbrev pub IsTurned : Bool → List ℕ → List ℕ → Type 0
IsTurned down key bytes = MatchBool down (AllZip (λ byte turned. byte + turned ≡ 255) key bytes) (bytes ≡ key)

-- the order of two parts, either of which may be absent: what is absent comes first
abbrev pub part_cmp : Option Tree → Option Tree → Ordering
part_cmp None None = Equal
part_cmp None (Some u) = Less
part_cmp (Some t) None = Greater
part_cmp (Some t) (Some u) = tree_cmp t u

-- The children of trees, as they are found.
use Rattle.std.proofs.Common.{◌≡◌, ℕ, zero, suc, ◌<◌, ◌^◌, List, Some, None, option_map, arith}
use Rattle.jsonb_spec.specs.Accessors.{as_array, item_at, trees_len}
use Rattle.jsonb_spec.specs.Tree.{Tree, array, Trees, no_trees, more_trees}
use Rattle.jsonb_spec.specs.PartAt.{IsIndex, IsChild}

pub item_within : (ts : Trees) (i : ℕ) (t : Tree) → item_at ts i ≡ Some t → i < trees_len ts
item_within no_trees i t e = cc
item_within (more_trees u ts) zero t e = omega arith
item_within (more_trees u ts) (suc i) t e = let rest = item_within ts i t e in omega (arith, rest)

no_some : {A : Type 0} (x : A) → Some x ≡ None → ⊥
no_some x e = cc

same_length : (m n : ℕ) → Some m ≡ Some n → m ≡ n
same_length m n e = cc

-- the key of an array's item is an index
pub no_index : (t : Tree) (key : List ℕ) (len : ℕ) → Some len ≡ option_map trees_len (as_array t) → len < 2 ^ 64 → ((index : ℕ) → index < 2 ^ 64 → IsIndex key index → ⊥) → (u : Tree) → IsChild t key u → ⊥
no_index (array ts) key len some fits none u (i, encodes, at) =
    let within = item_within ts i u at in
    let same = same_length len (trees_len ts) some in
    none i (omega (arith, within, same, fits)) encodes
no_index t key len some fits none u child = no_some len some

-- ---- computed

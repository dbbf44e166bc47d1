-- The items of an array from one on: what is left of their bytes.
use Rattle.std.proofs.Common.{◌≡◌, ℕ, zero, suc, ◌+◌, ◌-◌, ◌<◌, ◌≤◌, true, List, ◌++◌, Bor, Option, Some, None, if◌then◌else◌, Ok, refl, sym, ap, ◌∙◌, arith}
use Rattle.std.proofs.lemmas.Bool.{le-ltb, lt-ltb}
use Rattle.jsonb_spec.specs.Accessors.{trees_len}
use Rattle.jsonb_spec.specs.SortKey.Open.{items, IsOpen}
use Rattle.jsonb_spec.specs.SortKey.Readable.{IsAnyNumber, IsReadable}
use Rattle.jsonb_spec.specs.SortKey.{key_of, items_key}
use Rattle.jsonb_spec.specs.Proper.{AreProper}
use Rattle.jsonb_spec.specs.Text.Range.{AreWithin}
use Rattle.jsonb_spec.specs.Tree.{Tree, Trees, no_trees, more_trees}
use Rattle.key_walk.specs.AtKeys.{AtItems}
use Rattle.key_walk.proofs.Finds.{readable_inside}
use Rattle.key_edit.specs.Spots.{index_in, items_from, LeavesItems, OccursFirst}

-- those that are left are well-formed
pub from_open : (n : ℕ) (ts : Trees) → AreProper ts → AreWithin IsAnyNumber ts 511 → IsOpen (items (items_from n ts)) 511
from_open zero ts p w = (p, w)
from_open (suc n) no_trees p w = (p, w)
from_open (suc n) (more_trees t ts) p w = from_open n ts p.1 w.1

-- none is behind the end
from_none : (n : ℕ) → items_from n no_trees ≡ no_trees
from_none zero = refl
from_none (suc n) = refl

pub from_end : (n : ℕ) (ts : Trees) → trees_len ts ≤ n → items_from n ts ≡ no_trees
from_end n no_trees h = from_none n
from_end zero (more_trees t ts) h = absurd (omega (arith, h))
from_end (suc n) (more_trees t ts) h = from_end n ts (omega (arith, h))

-- so many, and then as many as these
pub from_from : (m n k : ℕ) (ts : Trees) → k ≡ n + m → items_from m (items_from n ts) ≡ items_from k ts
from_from m zero k ts e = ap (λ i. items_from i ts) {x = m} {y = k} (omega (arith, e))
from_from m (suc n) k no_trees e = from_none m ∙ sym (from_none k)
from_from m (suc n) zero (more_trees t ts) e = absurd (omega (arith, e))
from_from m (suc n) (suc k) (more_trees t ts) e = from_from m n k ts (omega (arith, e))

-- the first of those that are left
pub record ItemNext (ts : Trees) (n : ℕ) (value more : List ℕ) : Type 0 where
  pub tree : Tree
  pub readable : IsReadable tree
  pub value_is : value ≡ key_of tree ++ (items_key (items_from (suc n) ts) ++ more)
  pub below : n < trees_len ts

pub item_next : (n : ℕ) (ts : Trees) (more : List ℕ) (v : Bor (List ℕ)) → AreProper ts → AreWithin IsAnyNumber ts 511 → OccursFirst (items (items_from n ts)) more (Ok (Some v)) → ItemNext ts n v.now more
item_next zero no_trees more v p w o = absurd o
item_next (suc n) no_trees more v p w o = absurd o
item_next zero (more_trees t ts) more v p w o = record { tree = t; readable = readable_inside t (record { proper = p.0; within = w.0 }); value_is = o; below = omega arith }
item_next (suc n) (more_trees t ts) more v p w o = let r = item_next n ts more v p.1 w.1 o in record { tree = r.tree; readable = r.readable; value_is = r.value_is; below = omega (arith, r.below) }

-- none is left
pub items_end : (n : ℕ) (ts : Trees) (more : List ℕ) → OccursFirst (items (items_from n ts)) more (Ok None) → trees_len ts ≤ n
items_end n no_trees more o = omega arith
items_end zero (more_trees t ts) more o = absurd o
items_end (suc n) (more_trees t ts) more o = omega (arith, items_end n ts more o)

-- ---- so many passed

-- the items that are left, when so many are still to be passed
abbrev pub PassesItems : List ℕ → ℕ → ℕ → List ℕ → Type 0
PassesItems bytes count left rest = AtItems bytes (λ ts more. (n : ℕ) × (n + left ≡ count) × (rest ≡ items_key (items_from n ts) ++ more))

-- ---- so many from the end

-- what was left so many items earlier, or nothing at the front
abbrev pub IsEarlier : Trees → ℕ → ℕ → List ℕ → Option (Bor (List ℕ)) → Type 0
IsEarlier ts back passed more None = passed ≡ 0
IsEarlier ts back passed more (Some rest) = (n : ℕ) × (n + back ≡ passed) × (rest.now ≡ items_key (items_from n ts) ++ more)

-- what is left; what was left so many items before; and what was left a given number of items earlier than that
pub record BackLeft (ts : Trees) (back since : ℕ) (rest later : List ℕ) (earlier : Option (Bor (List ℕ))) (more : List ℕ) : Type 0 where
  pub passed : ℕ
  pub within : passed + since ≤ trees_len ts
  pub at_rest : rest ≡ items_key (items_from (passed + since) ts) ++ more
  pub at_later : later ≡ items_key (items_from passed ts) ++ more
  pub at_earlier : IsEarlier ts back passed more earlier

abbrev pub WalksBack : List ℕ → ℕ → ℕ → List ℕ → List ℕ → Option (Bor (List ℕ)) → Type 0
WalksBack bytes back since rest later earlier = AtItems bytes (λ ts more. BackLeft ts back since rest later earlier more)

pub index_back : (count back index : ℕ) → index + back ≡ count → index_in count (true, back) ≡ Some index
index_back count back index e =
    let same : count - back ≡ index = omega (arith, e) in
    ap (λ b. if b then None else Some (count - back)) (le-ltb count back (omega (arith, e))) ∙ ap (λ i. Some i) same

pub none_back : (count back : ℕ) → count < back → index_in count (true, back) ≡ None
none_back count back h = ap (λ b. if b then None else Some (count - back)) (lt-ltb count back h)

-- ---- what is reported of the items

pub left_at : (ts : Trees) (more : List ℕ) (i : Option ℕ) (rest : Bor (List ℕ)) → LeavesItems ts more i (Some rest) → (n : ℕ) × (i ≡ Some n) × (rest.now ≡ items_key (items_from n ts) ++ more)
left_at ts more None rest l = absurd l
left_at ts more (Some n) rest l = (n, refl, l)

pub none_at : (ts : Trees) (more : List ℕ) (i : Option ℕ) → LeavesItems ts more i None → i ≡ None
none_at ts more None l = refl
none_at ts more (Some n) l = absurd l

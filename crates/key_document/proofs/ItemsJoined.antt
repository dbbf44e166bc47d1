-- The zeros of an array with the items of two values.
use Rattle.std.proofs.Common.{◌≡◌, ℕ, ◌+◌, List, [], ◌∷◌, ◌++◌, None, Some, length, drop, refl, sym, ap, ◌∙◌, arith, append-nil, length-append}
use Rattle.std.proofs.Math.Seq.{drop-append_seam}
use Rattle.jsonb_spec.specs.SortKey.Readable.{IsReadable}
use Rattle.key_value.proofs.Texts.{none_some}
use Rattle.jsonb_spec.specs.SortKey.{key_of, items_key}
use Rattle.jsonb_spec.specs.Tree.{Tree, array, Trees}
use Rattle.jsonb_spec.specs.Document.{zeros_at}
use Rattle.jsonb_spec.specs.Document.Counts.{counts_of_items, counts_at, counts_at_items}
use Rattle.key_document.specs.Merging.{item_edge}
use Rattle.key_document.proofs.Merging.{items_counts_end, joined_counts}
use Rattle.jsonb_spec.specs.Edit.{as_items, joined_items}
use Rattle.key_edit.proofs.Joined.{items_there}
use Rattle.jsonb_spec.specs.Document.Zeros.{plain_at_end, zeros_of}
use Rattle.key_zeros.proofs.Joining.{zeros_joined}

pub edge_some : (t : Tree) → IsReadable t → (key rest : List ℕ) → key ≡ key_of t → key ≡ 0xD2 ∷ rest → 1 ≡ item_edge t
edge_some t r key rest e begins = sym (ap item_edge (items_there t r key rest e begins).whole)

pub edge_none : (t : Tree) (key : List ℕ) → key ≡ key_of t → ((ts : Trees) → (more : List ℕ) → key ≡ key_of (array ts) ++ more → None ≡ Some (items_key ts ++ more)) → 0 ≡ item_edge t
edge_none (array ts) key e none = absurd (none_some _ (none ts [] (e ∙ sym (append-nil (key_of (array ts))))))
edge_none t key e none = refl

-- the counts of the items, and what is before them and behind them
pub record ItemsWithin (t : Tree) : Type 0 where
  pub before : List ℕ
  pub behind : List ℕ
  pub counts_are : counts_at t ≡ before ++ (counts_of_items (as_items t) ++ behind)
  pub before_is : length before ≡ item_edge t
  pub behind_is : length behind ≡ item_edge t

pub items_within : (t : Tree) → ItemsWithin t
items_within (array ts) = record { before = 0 ∷ []; behind = 0 ∷ []; counts_are = ap (λ l. 0 ∷ l) (items_counts_end ts); before_is = refl; behind_is = refl }
items_within t = record { before = []; behind = []; counts_are = sym (append-nil (counts_at t ++ []) ∙ append-nil (counts_at t)); before_is = refl; behind_is = refl }

pub items_passed : (t : Tree) (edge : ℕ) → edge ≡ item_edge t → drop edge (counts_at t) ≡ counts_of_items (as_items t) ++ (items_within t).behind
items_passed t edge e =
    let x = items_within t in
    ap (λ n. drop n (counts_at t)) (e ∙ sym x.before_is) ∙ ap (drop (length x.before)) x.counts_are ∙ drop-append_seam x.before (counts_of_items (as_items t) ++ x.behind)

pub items_long : (t : Tree) → length (counts_at t) ≡ item_edge t + (length (counts_of_items (as_items t)) + item_edge t)
items_long t =
    let x = items_within t in
    omega (arith, ap length x.counts_are, length-append x.before (counts_of_items (as_items t) ++ x.behind), length-append (counts_of_items (as_items t)) x.behind, x.before_is, x.behind_is)

-- ---- both

abbrev pub joined_array : Tree → Tree → Tree
joined_array t u = array (joined_items (as_items t) (as_items u))

joined_end : (t u : Tree) → counts_at_items (joined_items (as_items t) (as_items u)) ≡ counts_of_items (as_items t) ++ (counts_of_items (as_items u) ++ 0 ∷ [])
joined_end t u = joined_counts (as_items t) (as_items u) ∙ ap (λ l. counts_of_items (as_items t) ++ l) (items_counts_end (as_items u))

pub joined_long : (t u : Tree) → length (counts_at (joined_array t u)) ≡ length (counts_of_items (as_items t)) + length (counts_of_items (as_items u)) + 2
joined_long t u = omega (arith, ap length (joined_end t u), length-append (counts_of_items (as_items t)) (counts_of_items (as_items u) ++ 0 ∷ []), length-append (counts_of_items (as_items u)) (0 ∷ []))

-- the zeros are those of both
pub joined_zeros : (t u : Tree) (plain : ℕ) → plain ≡ plain_at_end 1 (counts_of_items (as_items t)) → zeros_at (joined_array t u) ≡ zeros_of 1 (counts_of_items (as_items t)) ++ zeros_of plain (counts_of_items (as_items u))
joined_zeros t u plain e =
    let xs = counts_of_items (as_items t) in
    let ys = counts_of_items (as_items u) in
    ap (zeros_of 1) (joined_end t u) ∙ zeros_joined 1 xs (ys ++ 0 ∷ [])
    ∙ ap (λ l. zeros_of 1 xs ++ l) (ap (λ n. zeros_of n (ys ++ 0 ∷ [])) (sym e) ∙ zeros_joined plain ys (0 ∷ []) ∙ append-nil (zeros_of plain ys))

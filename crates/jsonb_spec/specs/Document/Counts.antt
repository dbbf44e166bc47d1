-- The zeros that end the decimals of a value, by the bytes of its key, which doesn't have them.
use Rattle.std.specs.Prelude.{◌≡◌, ℕ, ◌-◌, Bool, true, false, unsigned_abs, List, [], ◌∷◌, ◌++◌, length, replicate}
use Rattle.jsonb_spec.specs.Ascii as ascii
use Rattle.jsonb_spec.specs.SortKey.{key_of, number_key, text_key}
use Rattle.jsonb_spec.specs.Tree.{Num, Tree, number, array, object, Trees, no_trees, more_trees, Members, no_members, more_members}
use Rattle.jsonb_spec.specs.SortKey.FewestDigits.{spare_zeros}
use Rattle.jsonb_spec.specs.SortKey.Open.{Open, items, members}

-- how many zeros end the digits of a number behind the point
abbrev pub count_of : Num → ℕ
count_of n = spare_zeros n.scale (unsigned_abs n.whole)

-- so many zeros at the end of a number, behind its point, if it has one already (true), and behind one
abbrev pub ending_text : Bool → ℕ → List ℕ
ending_text true count = replicate count ascii.digit_zero
ending_text false count = ascii.point ∷ replicate count ascii.digit_zero

abbrev mutual
  -- Of each byte of a value's key: how many zeros end the number whose key begins there; 0 where none does.
  pub counts_at : Tree → List ℕ
  counts_at (number n) = count_of n ∷ replicate (length (number_key n) - 1) 0
  counts_at (array ts) = 0 ∷ counts_at_items ts
  counts_at (object ms) = 0 ∷ counts_at_members ms
  counts_at t = replicate (length (key_of t)) 0

  -- those of the items' keys, and of the end
  pub counts_at_items : Trees → List ℕ
  counts_at_items no_trees = 0 ∷ []
  counts_at_items (more_trees t ts) = counts_at t ++ counts_at_items ts

  -- those of the names and of the values' keys, and of the end
  pub counts_at_members : Members → List ℕ
  counts_at_members no_members = 0 ∷ 0 ∷ []
  counts_at_members (more_members key t ms) =
      replicate (length (text_key key)) 0 ++ (counts_at t ++ counts_at_members ms)

-- those of the bytes that are left of an array or an object
abbrev pub counts_open : Open → List ℕ
counts_open (items ts) = counts_at_items ts
counts_open (members ms) = counts_at_members ms

-- those of the bytes that are left of all that are open, the innermost first
abbrev pub opens_counts : List Open → List ℕ
opens_counts [] = []
opens_counts (o ∷ os) = counts_open o ++ opens_counts os

-- No number ends in zeros.
pub record AreZeros (counts : List ℕ) : Type 0 where
  pub size : ℕ
  pub all : counts ≡ replicate size 0

-- the counts of the bytes of items, without the end of an array
abbrev pub counts_of_items : Trees → List ℕ
counts_of_items no_trees = []
counts_of_items (more_trees t ts) = counts_at t ++ counts_of_items ts

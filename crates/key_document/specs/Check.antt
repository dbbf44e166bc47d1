-- Which zeros the numbers of a value may end in.
use Rattle.std.specs.Prelude.{◌≡◌, ◌≢◌, ◌⊎◌, ◌<◌, ◌≤◌, ℕ, suc, ◌+◌, ◌-◌, ◌%◌, unsigned_abs, List, [], ◌∷◌, ◌++◌, length, replicate, ⊤}
use Rattle.jsonb_spec.specs.SortKey.{digit_count, key_of, number_key, text_key}
use Rattle.jsonb_spec.specs.Tree.{Num, Tree, number, array, object, Trees, no_trees, more_trees, Members, no_members, more_members}
use Rattle.key_document.specs.declared.due.ZerosDue.{ZerosDue}
use Rattle.jsonb_spec.specs.SortKey.FewestDigits.{fewest_digits}
use Rattle.jsonb_spec.specs.SortKey.Reading.{IsDigits}
use Rattle.jsonb_spec.specs.SortKey.Open.{Open, items, members}
use Rattle.jsonb_spec.specs.Document.Zeros.{zeros_of}

-- how many zeros may follow these digits behind the point, so that there are at most 38, before and behind it
abbrev pub zeros_within : ℕ → ℕ → ℕ
zeros_within scale magnitude = 38 - (scale + (digit_count magnitude - scale))

-- how many zeros a number in range may end in
abbrev pub most_zeros : Num → ℕ
most_zeros n = zeros_within (fewest_digits n).scale (unsigned_abs (fewest_digits n).whole)

abbrev mutual
  -- Of each byte of a value's key: how many zeros the number may end in whose key begins there; 0 where none does.
  pub most_at : Tree → List ℕ
  most_at (number n) = most_zeros n ∷ replicate (length (number_key n) - 1) 0
  most_at (array ts) = 0 ∷ most_at_items ts
  most_at (object ms) = 0 ∷ most_at_members ms
  most_at t = replicate (length (key_of t)) 0

  -- those of the items' keys, and of the end
  pub most_at_items : Trees → List ℕ
  most_at_items no_trees = 0 ∷ []
  most_at_items (more_trees t ts) = most_at t ++ most_at_items ts

  -- those of the names and of the values' keys, and of the end
  pub most_at_members : Members → List ℕ
  most_at_members no_members = 0 ∷ 0 ∷ []
  most_at_members (more_members key t ms) =
      replicate (length (text_key key)) 0 ++ (most_at t ++ most_at_members ms)

-- those of the bytes that are left of an array or an object
abbrev pub most_open : Open → List ℕ
most_open (items ts) = most_at_items ts
most_open (members ms) = most_at_members ms

-- There are as many counts, and each is at most as large.
abbrev pub AreAtMost : List ℕ → List ℕ → Type 0
AreAtMost [] [] = ⊤
AreAtMost [] (most ∷ others) = ⊥
AreAtMost (count ∷ counts) [] = ⊥
AreAtMost (count ∷ counts) (most ∷ others) = (count ≤ most) × AreAtMost counts others

-- The bytes are zeros that may be there.
pub record ZerosFit (most zeros : List ℕ) : Type 0 where
  pub counts : List ℕ
  pub at_most : AreAtMost counts most
  pub are : zeros ≡ zeros_of 0 counts

-- The next number with zeros begins where so many bytes are left, it may have as many, and those behind it fit.
abbrev pub FitsFrom : ℕ → ℕ → List ℕ → List ℕ → Type 0
FitsFrom at count entries [] = at ≡ 0
FitsFrom at count entries (most ∷ others) =
    ((at ≡ suc (length others)) × (0 < count) × (count ≤ most) × ZerosFit others entries)
    ⊎ ((at ≢ suc (length others)) × FitsFrom at count entries others)

-- The same of what is known of the next number.
abbrev pub Fits : ZerosDue → List ℕ → Type 0
Fits due most = FitsFrom due.at due.count due.entries.now most

-- The next number with zeros has some.
abbrev pub IsCounted : ZerosDue → Type 0
IsCounted due = 0 < due.at → 0 < due.count

-- So many digits are left of a number without the zeros at its end.
pub record IsStripped (count magnitude read : ℕ) : Type 0 where
  pub digits : ℕ
  pub is_digits : IsDigits count magnitude digits read
  pub not_zero : digits % 10 ≢ 0

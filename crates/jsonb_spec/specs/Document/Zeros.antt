-- The zeros that end the decimals of a value, which its sort key doesn't have, and how they are stored beside it.
use Rattle.std.specs.Prelude.{ℕ, zero, suc, ◌+◌, ◌/◌, ◌%◌, ◌==◌, nat_lt, if◌then◌else◌, unsigned_abs, List, [], ◌∷◌, ◌++◌}
use Rattle.jsonb_spec.specs.Tree.{Tree, number, array, object, Trees, no_trees, more_trees, Members, no_members, more_members}
use Rattle.jsonb_spec.specs.SortKey.FewestDigits.{spare_zeros}

abbrev mutual
  -- how many zeros end the digits behind the point of each number, in the order of the text
  pub counts_in : Tree → List ℕ
  counts_in (number n) = spare_zeros n.scale (unsigned_abs n.whole) ∷ []
  counts_in (array ts) = counts_in_items ts
  counts_in (object ms) = counts_in_members ms
  counts_in t = []

  -- those of each item
  pub counts_in_items : Trees → List ℕ
  counts_in_items no_trees = []
  counts_in_items (more_trees t ts) = counts_in t ++ counts_in_items ts

  -- those of each member's value
  pub counts_in_members : Members → List ℕ
  counts_in_members no_members = []
  counts_in_members (more_members key t ms) = counts_in t ++ counts_in_members ms

-- A number below 2^63: seven bits in a byte, the lowest first, and 128 more in each byte but the last, of which there
-- are at most so many.
unfoldable pub in_sevens : ℕ → ℕ → List ℕ
in_sevens zero n = n ∷ []
in_sevens (suc more) n = if nat_lt n 128 then n ∷ [] else (128 + n % 128) ∷ in_sevens more (n / 128)

-- What is stored of a number: nothing where no zeros end it, and else how many numbers without any come before it since
-- the last with some, and how many zeros there are.
abbrev pub entry_of : ℕ → ℕ → List ℕ
entry_of plain count = if count == 0 then [] else in_sevens 8 plain ++ count ∷ []

-- how many numbers without zeros are at the end then
abbrev pub plain_behind : ℕ → ℕ → ℕ
plain_behind plain count = if count == 0 then suc plain else 0

-- what is stored of numbers, before which so many without zeros come
abbrev pub zeros_of : ℕ → List ℕ → List ℕ
zeros_of plain [] = []
zeros_of plain (count ∷ counts) = entry_of plain count ++ zeros_of (plain_behind plain count) counts

-- how many without zeros are at the end of all these
abbrev pub plain_at_end : ℕ → List ℕ → ℕ
plain_at_end plain [] = plain
plain_at_end plain (count ∷ counts) = plain_at_end (plain_behind plain count) counts

-- the zeros of a value
abbrev pub zeros_in : Tree → List ℕ
zeros_in t = zeros_of 0 (counts_in t)

-- Where the parts of a value are in its key, and how many numbers come before them.
use Rattle.std.specs.Prelude.{◌≡◌, ℕ, ◌+◌, ◌⊎◌, ◌&&◌, nat_lt, if◌then◌else◌, List, [], ◌∷◌, ◌++◌, length}
use Rattle.jsonb_spec.specs.SortKey.{key_of, text_key}
use Rattle.jsonb_spec.specs.SortKey.Kind as kind
use Rattle.jsonb_spec.specs.Tree.{Tree, array, object, Trees, no_trees, more_trees, Members, no_members, more_members}
use Rattle.jsonb_spec.specs.Document.Zeros.{counts_in}

-- how many numbers a value has
abbrev pub numbers_in : Tree → ℕ
numbers_in t = length (counts_in t)

-- one for the first byte of a number's key, and else none
abbrev pub number_count : ℕ → ℕ
number_count first = if nat_lt kind.true first && nat_lt first kind.string then 1 else 0

-- The part is the value.
abbrev pub IsWhole : Tree → List ℕ → ℕ → Tree → Type 0
IsWhole t before numbers part = (before ≡ []) × (numbers ≡ 0) × (part ≡ t)

abbrev mutual
  -- The part is in the value: these bytes of its key come before, and so many of its numbers.
  pub OccursIn : Tree → List ℕ → ℕ → Tree → Type 0
  OccursIn (array ts) before numbers part = IsWhole (array ts) before numbers part
      ⊎ ((inner : List ℕ) × (before ≡ kind.array ∷ inner) × OccursInItems ts inner numbers part)
  OccursIn (object ms) before numbers part = IsWhole (object ms) before numbers part
      ⊎ ((inner : List ℕ) × (before ≡ kind.object ∷ inner) × OccursInMembers ms inner numbers part)
  OccursIn t before numbers part = IsWhole t before numbers part

  -- It is in the first of these items, or in one behind that.
  pub OccursInItems : Trees → List ℕ → ℕ → Tree → Type 0
  OccursInItems no_trees before numbers part = ⊥
  OccursInItems (more_trees t ts) before numbers part = OccursIn t before numbers part
      ⊎ ((inner : List ℕ) × (fewer : ℕ) × (before ≡ key_of t ++ inner) × (numbers ≡ numbers_in t + fewer)
      × OccursInItems ts inner fewer part)

  -- It is in the value of the first of these members, or in one behind that.
  pub OccursInMembers : Members → List ℕ → ℕ → Tree → Type 0
  OccursInMembers no_members before numbers part = ⊥
  OccursInMembers (more_members key t ms) before numbers part =
      ((inner : List ℕ) × (before ≡ text_key key ++ inner) × OccursIn t inner numbers part)
      ⊎ ((inner : List ℕ) × (fewer : ℕ) × (before ≡ text_key key ++ (key_of t ++ inner))
      × (numbers ≡ numbers_in t + fewer) × OccursInMembers ms inner fewer part)

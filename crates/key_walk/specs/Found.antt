-- What is reported of parts of keys, and how many parts are left.
use Rattle.std.specs.Prelude.{◌≡◌, ℕ, Bool, List, ◌++◌, Option, Some, None, Result, Ok, Err, ⊤}
use Rattle.std.specs.Borrow.{Bor}
use Rattle.key_walk.specs.declared.find.NoKey.{NoKey}
use Rattle.jsonb_spec.specs.SortKey.Open.{Open, items, members, IsScalar}
use Rattle.jsonb_spec.specs.Accessors.{trees_len}
use Rattle.jsonb_spec.specs.SortKey.{key_of, items_key, members_key}
use Rattle.jsonb_spec.specs.Tree.{Tree, no_trees, more_trees, no_members, more_members}
use Rattle.jsonb_spec.specs.SortKey.Found.{members_len, PartOccurs, IsLeftOf}

-- how many items or members are left
abbrev pub open_len : Open → ℕ
open_len (items ts) = trees_len ts
open_len (members ms) = members_len ms

-- What is found in the bytes is the part, or nothing where there is none.
abbrev pub Finds : List ℕ → Option Tree → Result (Option (Bor (List ℕ))) NoKey → Type 0
Finds bytes (Some part) (Ok (Some rest)) = PartOccurs bytes rest.now part
Finds bytes None (Ok None) = ⊤
Finds bytes part found = ⊥

-- It is reported whether the tree is an object, and what is behind the first byte of its key; nothing where it is
-- neither an object nor an array.
abbrev pub Opens : Tree → List ℕ → Result (Option (Bool × Bor (List ℕ))) NoKey → Type 0
Opens t more (Ok (Some parts)) = IsLeftOf t parts.0 parts.1.now more
Opens t more (Ok None) = IsScalar t
Opens t more (Err e) = ⊥

-- What is reported of what is left of an array or an object: the bytes from the value of the first part on, and those
-- behind that part; or nothing where no part is left.
abbrev pub IsNext : Open → List ℕ → Result (Option (Bor (List ℕ) × Bor (List ℕ))) NoKey → Type 0
IsNext (items no_trees) more (Ok None) = ⊤
IsNext (items (more_trees t ts)) more (Ok (Some reported)) =
    (reported.0.now ≡ key_of t ++ (items_key ts ++ more)) × (reported.1.now ≡ items_key ts ++ more)
IsNext (members no_members) more (Ok None) = ⊤
IsNext (members (more_members key t ms)) more (Ok (Some reported)) =
    (reported.0.now ≡ key_of t ++ (members_key ms ++ more)) × (reported.1.now ≡ members_key ms ++ more)
IsNext o more reported = ⊥

-- What is met on a walk over a tree, in the order of its sort key: scalars, and where arrays and objects begin and end.
use Rattle.std.specs.Prelude.{ℕ, List, [], ◌∷◌, ◌++◌, Option, Some, None}
use Rattle.jsonb_spec.specs.Tree.{Tree, array, object, Trees, no_trees, more_trees, Members, no_members, more_members}

-- A value begins, which is a scalar, an array or an object, as a member of this name or as an item; or the innermost
-- array or object that was begun ends.
pub data Event : Type 0 where
  begins : Option (List ℕ) → Tree → Event
  ends : Event

abbrev mutual
  -- what is met of a value, as a member of this name or as an item
  pub events_of : Option (List ℕ) → Tree → List Event
  events_of name (array ts) = begins name (array ts) ∷ events_of_items ts
  events_of name (object ms) = begins name (object ms) ∷ events_of_members ms
  events_of name t = begins name t ∷ []

  -- what is met of these items, and their end
  pub events_of_items : Trees → List Event
  events_of_items no_trees = ends ∷ []
  events_of_items (more_trees t ts) = events_of None t ++ events_of_items ts

  -- what is met of these members, and their end
  pub events_of_members : Members → List Event
  events_of_members no_members = ends ∷ []
  events_of_members (more_members name t ms) = events_of (Some name) t ++ events_of_members ms

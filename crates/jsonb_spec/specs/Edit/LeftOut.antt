-- Values without members and items that are left out: those that an object names, and nulls.
use Rattle.std.specs.Prelude.{ℕ, Bool, true, false, ◌&&◌, ◌||◌, if◌then◌else◌, List, Option, Some, None}
use Rattle.std.specs.Str.{bytes_eq}
use Rattle.jsonb_spec.specs.Containment.{any_item}
use Rattle.jsonb_spec.specs.Tree.{Tree, null, string, array, object, Trees, no_trees, more_trees, Members, no_members, more_members}

-- ---- what an object names

-- whether a member has this name
abbrev pub has_name : List ℕ → Members → Bool
has_name name no_members = false
has_name name (more_members k t ms) = bytes_eq name k || has_name name ms

-- whether one of the members has one of the names
abbrev pub any_named : Members → Members → Bool
any_named names no_members = false
any_named names (more_members k t ms) = has_name k names || any_named names ms

-- the members that have none of the names
abbrev pub members_beside : Members → Members → Members
members_beside names no_members = no_members
members_beside names (more_members k t ms) =
    if has_name k names then members_beside names ms else more_members k t (members_beside names ms)

-- whether the item is a string that is one of the names
abbrev pub is_named : Members → Tree → Bool
is_named names (string mark bytes) = has_name bytes names
is_named names t = false

-- the items that are no such strings
abbrev pub items_beside : Members → Trees → Trees
items_beside names no_trees = no_trees
items_beside names (more_trees t ts) =
    if is_named names t then items_beside names ts else more_trees t (items_beside names ts)

-- the value without the members that have one of the names, or without the items that are one; None where there is none
abbrev pub beside_names : Members → Tree → Option Tree
beside_names names (object ms) = if any_named names ms then Some (object (members_beside names ms)) else None
beside_names names (array ts) = if any_item (is_named names) ts then Some (array (items_beside names ts)) else None
beside_names names t = None

-- the value without what the object names, as jsonb `-` has it; None where that is nothing, and where it is no object
abbrev pub without_names : Tree → Tree → Option Tree
without_names (object names) t = beside_names names t
without_names u t = None

-- ---- nulls

-- whether it is null
abbrev pub is_null : Tree → Bool
is_null null = true
is_null t = false

abbrev mutual
  -- the value without its members that are null, at all depths, and without its items that are where this is asked for,
  -- as `jsonb_strip_nulls` has it; a null alone stays
  pub without_nulls : Bool → Tree → Tree
  without_nulls in_arrays (array ts) = array (items_without_nulls in_arrays ts)
  without_nulls in_arrays (object ms) = object (members_without_nulls in_arrays ms)
  without_nulls in_arrays t = t

  -- the items, each without its nulls
  pub items_without_nulls : Bool → Trees → Trees
  items_without_nulls in_arrays no_trees = no_trees
  items_without_nulls in_arrays (more_trees t ts) = if is_null t && in_arrays then items_without_nulls in_arrays ts
      else more_trees (without_nulls in_arrays t) (items_without_nulls in_arrays ts)

  -- the members that aren't null, each without its nulls
  pub members_without_nulls : Bool → Members → Members
  members_without_nulls in_arrays no_members = no_members
  members_without_nulls in_arrays (more_members key t ms) = if is_null t then members_without_nulls in_arrays ms
      else more_members key (without_nulls in_arrays t) (members_without_nulls in_arrays ms)

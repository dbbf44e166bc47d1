-- Where two values differ: a line for each part that differs, or that only one of them has.
use Rattle.std.specs.Prelude.{ℕ, suc, List, [], ◌∷◌, ◌++◌, Option, Some, None, if◌then◌else◌, option_map, unwrap_or}
use Rattle.std.specs.Fmt.{decimal}
use Rattle.std.specs.List.{flat_map}
use Rattle.std.specs.Ordering.{is_eq}
use Rattle.jsonb_spec.specs.Accessors.{as_array, as_object, get_by_index, get_by_name}
use Rattle.jsonb_spec.specs.Ascii as ascii
use Rattle.jsonb_spec.specs.Order.{tree_cmp}
use Rattle.jsonb_spec.specs.Path.{encoded_keys}
use Rattle.jsonb_spec.specs.Program.Printed.{cell_byte}
use Rattle.jsonb_spec.specs.Text.{tree_text}
use Rattle.jsonb_spec.specs.Tree.{Tree, array, object, Trees, no_trees, more_trees, Members, no_members, more_members}

-- the text of a part, and nothing where it is absent
abbrev pub part_text : Option Tree → List ℕ
part_text None = []
part_text (Some t) = tree_text t

-- the line of a part: its pointer as a cell, and behind a tab each its texts in the two values
abbrev pub difference : List ℕ → Option Tree → Option Tree → List ℕ
difference pointer t u =
    flat_map cell_byte pointer ++ ascii.tab ∷ (part_text t ++ ascii.tab ∷ (part_text u ++ ascii.line_feed ∷ []))

-- the pointer of a member, or of an item
abbrev pub member_pointer : List ℕ → List ℕ → List ℕ
member_pointer pointer name = pointer ++ encoded_keys (name ∷ [])

abbrev pub item_pointer : List ℕ → ℕ → List ℕ
item_pointer pointer index = member_pointer pointer (decimal index)

-- the line of a part that only the second value has
abbrev pub addition : List ℕ → Option Tree → Tree → List ℕ
addition pointer None u = difference pointer None (Some u)
addition pointer (Some t) u = []

-- the lines of the items that only the second value has, from an index on
abbrev pub added_items : List ℕ → ℕ → Tree → Trees → List ℕ
added_items pointer index t no_trees = []
added_items pointer index t (more_trees u us) =
    addition (item_pointer pointer index) (get_by_index index t) u ++ added_items pointer (suc index) t us

-- so of its members
abbrev pub added_members : List ℕ → Tree → Members → List ℕ
added_members pointer t no_members = []
added_members pointer t (more_members name u us) =
    addition (member_pointer pointer name) (get_by_name name t) u ++ added_members pointer t us

-- the line of a part that both have, where they differ
abbrev pub change : List ℕ → Tree → Tree → List ℕ
change pointer t u = if is_eq (tree_cmp t u) then [] else difference pointer (Some t) (Some u)

abbrev mutual
  -- The lines of a part: of two arrays those of their items, and of two objects those of their members, with those that
  -- only the second value has at the end; else one, where they differ.
  pub differences : List ℕ → Tree → Option Tree → List ℕ
  differences pointer t None = difference pointer (Some t) None
  differences pointer (array ts) (Some u) = unwrap_or
      (option_map (λ us. item_differences pointer 0 u ts ++ added_items pointer 0 (array ts) us) (as_array u))
      (change pointer (array ts) u)
  differences pointer (object ts) (Some u) = unwrap_or
      (option_map (λ us. member_differences pointer u ts ++ added_members pointer (object ts) us) (as_object u))
      (change pointer (object ts) u)
  differences pointer t (Some u) = change pointer t u

  -- the lines of the first value's items, from an index on
  pub item_differences : List ℕ → ℕ → Tree → Trees → List ℕ
  item_differences pointer index u no_trees = []
  item_differences pointer index u (more_trees t ts) =
      differences (item_pointer pointer index) t (get_by_index index u) ++ item_differences pointer (suc index) u ts

  -- the lines of its members
  pub member_differences : List ℕ → Tree → Members → List ℕ
  member_differences pointer u no_members = []
  member_differences pointer u (more_members name t ts) =
      differences (member_pointer pointer name) t (get_by_name name u) ++ member_differences pointer u ts

-- The parts of a document, one after the other.
use Rattle.std.specs.Prelude.{Option, Some, None}
use Rattle.jsonb_spec.specs.Tree.{Tree, array, object, no_trees, more_trees, no_members, more_members}
use Rattle.jsonb_spec.specs.SortKey.Open.{Open, items, members}

-- all that is left of a value behind the first byte of its key; nothing of a scalar
abbrev pub all_parts : Tree → Option Open
all_parts (array ts) = Some (items ts)
all_parts (object ms) = Some (members ms)
all_parts t = None

-- the first part that is left; nothing where none is
abbrev pub first_part : Open → Option Tree
first_part (items no_trees) = None
first_part (items (more_trees t ts)) = Some t
first_part (members no_members) = None
first_part (members (more_members name t ms)) = Some t

-- what is left behind the first part
abbrev pub behind_first : Open → Open
behind_first (items no_trees) = items no_trees
behind_first (items (more_trees t ts)) = items ts
behind_first (members no_members) = members no_members
behind_first (members (more_members name t ms)) = members ms

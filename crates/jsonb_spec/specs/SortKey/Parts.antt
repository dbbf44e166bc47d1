-- The first bytes of the keys of numbers, and the array or the object of which all is left.
use Rattle.std.specs.Prelude.{◌≢◌, ℕ, ◌≤◌}
use Rattle.jsonb_spec.specs.SortKey.Open.{Open, items, members}
use Rattle.jsonb_spec.specs.Tree.{Tree, array, object}

-- The keys of numbers begin with this byte: those of negative ones with 0x38 to 0x7E, and the others with 0x80 to 0xC7.
abbrev pub IsNumberByte : ℕ → Type 0
IsNumberByte first = (0x38 ≤ first) × (first ≤ 0xC7) × (first ≢ 0x7F)

-- the array or the object of which all is left
abbrev pub opened_tree : Open → Tree
opened_tree (items ts) = array ts
opened_tree (members ms) = object ms

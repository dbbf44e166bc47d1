-- What the statuses say of a table of members.
use Rattle.std.specs.Prelude.{◌≡◌, ◌⊎◌, ℕ, List, Option, Some, None, if◌then◌else◌}
use Rattle.jsonb_spec.specs.Tree.{Tree}
use Rattle.jsonb_spec.specs.Table.{has_table, table_of}

-- the table of a value, if it has one
abbrev pub kept_table : Tree → Option (List ℕ)
kept_table t = if has_table t then Some (table_of t) else None

-- one of the statuses of what writes a table
abbrev pub IsTableStatus : ℕ → Type 0
IsTableStatus status = (status ≡ 0) ⊎ (status ≡ 2) ⊎ (status ≡ 4) ⊎ (status ≡ 5) ⊎ (status ≡ 7)

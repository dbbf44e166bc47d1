-- The table of an object's members, which is kept behind what is stored of it.
use Rattle.std.specs.Prelude.{◌≡◌, ℕ, ◌+◌, Bool, false, ◌&&◌, nat_le, if◌then◌else◌, List, [], ◌∷◌, ◌++◌, length}
use Rattle.std.specs.Int.{bytes_high_first, is_in_range}
use Rattle.std.specs.List.{flat_map}
use Rattle.jsonb_spec.specs.SortKey.Found.{members_len}
use Rattle.jsonb_spec.specs.SortKey.{key_of, text_key}
use Rattle.jsonb_spec.specs.Tree.{Tree, object, Members, no_members, more_members}

-- the last byte of a table, with which no document ends
abbrev pub table_mark : ℕ
table_mark = 0xFE

-- Whether a value has a table: it is an object with at least 4 members, whose key has at least 256 and at most 65,535
-- bytes.
abbrev pub has_table : Tree → Bool
has_table (object ms) = nat_le 4 (members_len ms) && is_in_range 256 65535 (length (key_of (object ms)))
has_table t = false

-- the offsets at which the members' names begin, of which the first is this
abbrev pub member_offsets : ℕ → Members → List ℕ
member_offsets offset no_members = []
member_offsets offset (more_members name t ms) =
    offset ∷ member_offsets (offset + (length (text_key name) + length (key_of t))) ms

-- a number below 65,536 in two bytes, the higher first
abbrev pub in_two : ℕ → List ℕ
in_two n = bytes_high_first 2 n

-- the offsets of the members' names in the key of the object, how many there are, and the mark
abbrev pub table_of_members : Members → List ℕ
table_of_members ms = flat_map in_two (member_offsets 1 ms) ++ (in_two (members_len ms) ++ table_mark ∷ [])

-- the table of a value; nothing where it has none
abbrev pub table_of : Tree → List ℕ
table_of (object ms) = if has_table (object ms) then table_of_members ms else []
table_of t = []

-- The last byte is not the mark, or there is none.
abbrev pub IsUnmarked : List ℕ → Type 0
IsUnmarked bytes = (front : List ℕ) → bytes ≡ front ++ table_mark ∷ [] → ⊥

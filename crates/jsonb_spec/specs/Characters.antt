-- Characters of a text, counted in its bytes.
use Rattle.std.specs.Prelude.{ℕ, suc, Bool, not, ◌&&◌, nat_lt, List, [], ◌∷◌, ◌++◌, take, drop}
use Rattle.std.specs.List.{count_by}

-- whether a byte begins a character in UTF-8: it is none of 0x80 to 0xBF
abbrev pub begins_character : ℕ → Bool
begins_character byte = not (nat_lt 0x7F byte && nat_lt byte 0xC0)

-- Which character the byte at the index is of, counted from 1 at the first byte: one more than the bytes behind the
-- first one and up to that at the index that begin one. The end of the text is a byte that does.
abbrev pub character_at : List ℕ → ℕ → ℕ → ℕ
character_at text first index =
    suc (count_by begins_character (drop (suc first) (take (suc index) (text ++ 0 ∷ []))))

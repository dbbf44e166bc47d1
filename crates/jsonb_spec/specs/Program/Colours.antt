-- A text in the colours that jq has on a terminal, piece by piece.
use Rattle.std.specs.Prelude.{◌≡◌, ℕ, ◌+◌, ◌==◌, ◌&&◌, ◌||◌, nat_lt, Bool, true, false, if◌then◌else◌, List, [], ◌∷◌, ◌++◌, codes, drop, length, slice_index, take, MatchBool}
use Rattle.jsonb_spec.specs.Ascii as ascii

-- the byte that begins an escape sequence of a terminal, and the one that ends that of a colour
abbrev pub escape : ℕ
escape = 27

abbrev pub lower_m : ℕ
lower_m = 109

-- the escape sequence with these attributes
abbrev pub sequence : List ℕ → List ℕ
sequence attributes = escape ∷ ascii.open_bracket ∷ (attributes ++ lower_m ∷ [])

-- How many bytes a string has: up to the quote that ends it, or all. What is passed ends none: the first quote, and a
-- byte behind a backslash.
abbrev pub string_len : Bool → List ℕ → ℕ
string_len passed [] = 0
string_len true (c ∷ cs) = 1 + string_len false cs
string_len false (c ∷ cs) = if c == ascii.quote then 1 else 1 + string_len (c == ascii.backslash) cs

-- how many bytes the first piece has: a string, null, or else one byte
abbrev pub piece_len : List ℕ → ℕ
piece_len [] = 0
piece_len (c ∷ cs) =
    if c == ascii.quote then string_len true (c ∷ cs)
    else if (c == ascii.lower_n) && nat_lt 2 (length cs) then 4 else 1

-- whether arrays and objects are written with the byte
abbrev pub is_mark : ℕ → Bool
is_mark byte = byte == ascii.open_bracket || (byte == ascii.close_bracket || (byte == ascii.open_brace
    || (byte == ascii.close_brace || (byte == ascii.comma || byte == ascii.colon))))

-- The colour of a piece by its first byte, and by what is behind it: a string is green, and before a colon, as a key, bold
-- and blue; null is bold and black, what arrays and objects are written with is bold, and all else has no colour.
abbrev pub colour_of : ℕ → List ℕ → List ℕ
colour_of first behind =
    if first == ascii.quote then
    (if slice_index behind 0 == ascii.colon then sequence (codes "34;1") else sequence (codes "0;32"))
    else if first == ascii.lower_n then sequence (codes "1;30")
    else if is_mark first then sequence (codes "1;39")
    else []

-- what ends a colour
abbrev pub end_of : List ℕ → List ℕ
end_of [] = []
end_of (c ∷ cs) = sequence (codes "0")

-- a piece in a colour
abbrev pub in_colour : List ℕ → List ℕ → List ℕ
in_colour colour piece = colour ++ (piece ++ end_of colour)

-- the first piece of the bytes, which begin with that byte, in its colour
abbrev pub shown_piece : ℕ → List ℕ → List ℕ
shown_piece first bytes =
    in_colour (colour_of first (drop (piece_len bytes) bytes)) (take (piece_len bytes) bytes)

-- The bytes are shown piece by piece, each in its colour.
pub data AreShown : List ℕ → List ℕ → Type 0 where
  no_piece : AreShown [] []
  one_piece : (c : ℕ) (cs shown : List ℕ) → AreShown (drop (piece_len (c ∷ cs)) (c ∷ cs)) shown
      → AreShown (c ∷ cs) (shown_piece c (c ∷ cs) ++ shown)

-- as a terminal has it: with colours, or without
abbrev pub IsShownAs : Bool → List ℕ → List ℕ → Type 0
IsShownAs colours bytes shown = MatchBool colours (AreShown bytes shown) (shown ≡ bytes)

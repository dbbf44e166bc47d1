-- A line with the key that it is sorted by, in hexadecimal.
use Rattle.std.specs.Prelude.{ℕ, ◌+◌, ◌-◌, ◌/◌, ◌%◌, nat_lt, if◌then◌else◌, List, [], ◌∷◌, ◌++◌}
use Rattle.std.specs.List.{flat_map}
use Rattle.jsonb_spec.specs.Ascii as ascii

-- the letter of the digit 10
abbrev pub letter_of_ten : ℕ
letter_of_ten = 97

-- a digit of base 16, in small letters
abbrev pub hex_digit : ℕ → ℕ
hex_digit half = if nat_lt half 10 then ascii.digit_zero + half else letter_of_ten + (half - 10)

-- the two digits of a byte
abbrev pub hex_text : ℕ → List ℕ
hex_text byte = hex_digit (byte / 16) ∷ hex_digit (byte % 16) ∷ []

-- a text with a line feed, behind a key in hexadecimal and a tab
abbrev pub key_line : List ℕ → List ℕ → List ℕ
key_line key text = flat_map hex_text key ++ ascii.tab ∷ (text ++ ascii.line_feed ∷ [])

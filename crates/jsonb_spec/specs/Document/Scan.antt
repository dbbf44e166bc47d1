-- Numbers in the bytes of texts, found from left to right.
use Rattle.std.specs.Prelude.{ℕ, ◌+◌, ◌==◌, nat_lt, Bool, ◌&&◌, ◌||◌, if◌then◌else◌, List, [], ◌∷◌}
use Rattle.jsonb_spec.specs.Ascii as ascii

-- a minus, a point or a digit
abbrev pub is_number_byte : ℕ → Bool
is_number_byte byte =
    byte == ascii.minus || (byte == ascii.point || (nat_lt ascii.slash byte && nat_lt byte ascii.colon))

-- how many zeros end the digits behind a point with one more byte
abbrev pub zeros_with : Bool → ℕ → ℕ → ℕ
zeros_with pointed zeros byte = if pointed && byte == ascii.digit_zero then zeros + 1 else 0

-- whether a number has a point, how many zeros end its digits behind that, and the bytes after it
abbrev pub ending_of : Bool → ℕ → List ℕ → Bool × (ℕ × List ℕ)
ending_of pointed zeros [] = (pointed, (zeros, []))
ending_of pointed zeros (byte ∷ bytes) =
    if is_number_byte byte then ending_of (pointed || byte == ascii.point) (zeros_with pointed zeros byte) bytes
    else (pointed, (zeros, byte ∷ bytes))

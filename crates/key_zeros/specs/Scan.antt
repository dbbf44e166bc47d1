-- Numbers in the bytes of texts, found from left to right.
use Rattle.std.specs.Prelude.{◌≡◌, ◌<◌, ◌≤◌, ⊤, ℕ, zero, suc, ◌==◌, Bool, true, false, if◌then◌else◌, List, [], ◌∷◌, length, Option, Some, None, option_and_then}
use Rattle.jsonb_spec.specs.Ascii as ascii
use Rattle.jsonb_spec.specs.Document.Scan.{is_number_byte, ending_of}

abbrev mutual
  -- the bytes from the next number on, or none; nothing where a string doesn't end
  pub from_number : List ℕ → Option (List ℕ)
  from_number [] = Some []
  from_number (byte ∷ bytes) = if byte == ascii.quote then from_number_behind bytes
      else (if is_number_byte byte then Some (byte ∷ bytes) else from_number bytes)

  -- those from the next number behind the string on, inside of which the bytes begin
  pub from_number_behind : List ℕ → Option (List ℕ)
  from_number_behind [] = None
  from_number_behind (byte ∷ bytes) = if byte == ascii.quote then from_number bytes
      else (if byte == ascii.backslash then behind_escaped bytes else from_number_behind bytes)

  -- those behind a byte of the string, whatever it is
  pub behind_escaped : List ℕ → Option (List ℕ)
  behind_escaped [] = None
  behind_escaped (byte ∷ bytes) = from_number_behind bytes

-- A number is first, or nothing.
abbrev pub BeginsNumber : List ℕ → Type 0
BeginsNumber [] = ⊤
BeginsNumber (byte ∷ bytes) = is_number_byte byte ≡ true

-- whether the number that the bytes begin with has a point, and the bytes behind it; nothing where there is none
abbrev pub behind_number : Option (List ℕ) → Option (Bool × List ℕ)
behind_number None = None
behind_number (Some []) = None
behind_number (Some (byte ∷ bytes)) =
    Some ((ending_of false 0 (byte ∷ bytes)).0, (ending_of false 0 (byte ∷ bytes)).1.1)

-- of the next number
abbrev pub next_number : List ℕ → Option (Bool × List ℕ)
next_number text = behind_number (from_number text)

-- of the number before which so many come
abbrev pub after_numbers : ℕ → List ℕ → Option (Bool × List ℕ)
after_numbers zero text = next_number text
after_numbers (suc before) text = option_and_then (λ next. after_numbers before next.1) (next_number text)

-- The numbers that are left in a text have so many zeros each, of which there are at most 255.
abbrev pub ZerosAhead : List ℕ → List ℕ → Type 0
ZerosAhead [] text = from_number text ≡ Some []
ZerosAhead (count ∷ counts) text =
    (number : List ℕ) × (pointed : Bool) × (behind : List ℕ) × (0 < length number) × (from_number text ≡ Some number)
    × (ending_of false 0 number ≡ (pointed, (count, behind))) × (count ≤ 255) × ZerosAhead counts behind

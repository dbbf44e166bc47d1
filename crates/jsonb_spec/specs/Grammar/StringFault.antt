-- Malformed contents of a string, with a code and a count.
use Rattle.std.specs.Prelude.{◌≡◌, ◌≢◌, ℕ, ◌+◌, ◌<◌, Bool, false, ◌⊎◌, List, [], ◌∷◌, ◌++◌, length, All, None, slice_index}
use Rattle.std.specs.List.{flat_map, AllByRecursion}
use Rattle.std.specs.Str.{IsUtf8}
use Rattle.jsonb_spec.specs.Ascii as ascii
use Rattle.jsonb_spec.specs.Mode.{Mode, strictness, GoesBeyondJson}
use Rattle.jsonb_spec.specs.Code.{Code, control_character_while_parsing_string, invalid_string_value, invalid_escaped, invalid_hex, unexpected_end_of_hex_escape}
use Rattle.jsonb_spec.specs.Grammar.StringBody.{Item, after_u, encoding, IsItem, IsHexDigit, IsBody, MayBeRaw, MayHaveBraces, escaped_byte, meaning}

-- Fewer than four bytes; or beyond JSON an opening brace, and five bytes on no closing brace.
abbrev pub IsUnitCut : Mode → List ℕ → Type 0
IsUnitCut mode bytes = (length bytes < 4)
    ⊎ (GoesBeyondJson mode × (slice_index bytes 0 ≡ ascii.open_brace) × (slice_index bytes 5 ≢ ascii.close_brace))

-- the first of the bytes that is no hexadecimal digit
pub record IsFirstNonDigit (bytes : List ℕ) (byte : ℕ) : Type 0 where
  pub digits : List ℕ
  pub more : List ℕ
  pub split : bytes ≡ digits ++ byte ∷ more
  pub before : All IsHexDigit digits
  pub here : ¬ (IsHexDigit byte)

-- The bytes, which follow `\u`, begin with no digits of a unit: what is wrong, and how many of them are read then.
pub data BadUnit (mode : Mode) (bytes : List ℕ) (code : Code) (read : ℕ) : Type 0 where
  cut_unit : IsUnitCut mode bytes → code ≡ unexpected_end_of_hex_escape → read ≡ 0 → BadUnit mode bytes code read
  bad_digit : (braces : Bool) (digits rest : List ℕ) (byte : ℕ) → MayHaveBraces mode braces
      → bytes ≡ after_u braces digits ++ rest → length digits ≡ 4
      → (GoesBeyondJson mode → braces ≡ false → slice_index digits 0 ≢ ascii.open_brace)
      → IsFirstNonDigit digits byte → code ≡ invalid_hex byte → read ≡ length (after_u braces digits)
      → BadUnit mode bytes code read

-- The bytes begin with no item, but with a backslash or with a byte that may not mean itself: what is wrong, and how
-- many of them are read then.
pub data BadItem (mode : Mode) (bytes : List ℕ) (code : Code) (read : ℕ) : Type 0 where
  cut_escape : bytes ≡ ascii.backslash ∷ [] → code ≡ unexpected_end_of_hex_escape → read ≡ 1
      → BadItem mode bytes code read
  unknown_escape : (letter : ℕ) (rest : List ℕ) → bytes ≡ ascii.backslash ∷ letter ∷ rest → letter ≢ ascii.lower_u
      → escaped_byte (strictness mode) letter ≡ None → code ≡ invalid_escaped letter → read ≡ 2
      → BadItem mode bytes code read
  bad_unit : (rest : List ℕ) (steps : ℕ) → bytes ≡ ascii.backslash ∷ ascii.lower_u ∷ rest → BadUnit mode rest code steps
      → read ≡ 2 + steps → BadItem mode bytes code read
  control_character : (byte : ℕ) (rest : List ℕ) → bytes ≡ byte ∷ rest → ¬ (MayBeRaw mode byte)
      → code ≡ control_character_while_parsing_string → read ≡ 1 → BadItem mode bytes code read

-- items, and then a bad one
pub record IsCutShort (mode : Mode) (bytes : List ℕ) (code : Code) (read : ℕ) : Type 0 where
  pub items : List Item
  pub each : AllByRecursion (IsItem mode) items
  pub rest : List ℕ
  pub encoded : bytes ≡ flat_map encoding items ++ rest
  pub steps : ℕ
  pub bad : BadItem mode rest code steps
  pub count : read ≡ length (flat_map encoding items) + steps

-- The bytes are a body but that its meaning is no text. All of them are read.
pub record IsNoText (mode : Mode) (bytes : List ℕ) (code : Code) (read : ℕ) : Type 0 where
  pub items : List Item
  pub body : IsBody mode bytes items
  pub not_utf8 : ¬ (IsUtf8 (meaning items))
  pub invalid : code ≡ invalid_string_value
  pub count : read ≡ length bytes

-- the bytes are no body: what is wrong, and how many of them are read then
abbrev pub IsFaultyBody : Mode → List ℕ → Code → ℕ → Type 0
IsFaultyBody mode bytes code read = IsCutShort mode bytes code read ⊎ IsNoText mode bytes code read

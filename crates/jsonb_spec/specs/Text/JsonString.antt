-- Strings in double quotes as JSON has them: they mean the same in each mode.
use Rattle.std.specs.Prelude.{◌≡◌, ℕ, false, List, [], ◌∷◌, length, All, Some}
use Rattle.std.specs.List.{flat_map, AllByRecursion}
use Rattle.jsonb_spec.specs.Grammar.StringBody.{Item, raw, escape, unit, encoding, meaning, standard_escape, IsHexDigit}
use Rattle.jsonb_spec.specs.Text.StringText.{byte_text}

-- a byte that is written as it is, an escape of one letter, or a unit whose four digits aren't in braces
abbrev pub IsJsonItem : Item → Type 0
IsJsonItem (raw byte) = byte_text byte ≡ byte ∷ []
IsJsonItem (escape letter byte) = standard_escape letter ≡ Some byte
IsJsonItem (unit braces digits) = (braces ≡ false) × (length digits ≡ 4) × All IsHexDigit digits

-- The contents of a string are such items, which mean this text.
pub record IsJsonBody (body text : List ℕ) : Type 0 where
  pub items : List Item
  pub each : AllByRecursion IsJsonItem items
  pub encoded : body ≡ flat_map encoding items
  pub means : text ≡ meaning items

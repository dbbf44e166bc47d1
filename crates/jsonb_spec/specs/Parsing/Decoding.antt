-- What the steps of the decoder guarantee.
use Rattle.std.specs.Prelude.{◌≡◌, ◌≢◌, ℕ, ◌+◌, ◌≤◌, ◌<◌, ◌^◌, Bool, true, false, List, ◌++◌, length, All, slice_index}
use Rattle.std.specs.List.{flat_map, AllByRecursion}
use Rattle.jsonb_spec.specs.Ascii as ascii
use Rattle.jsonb_spec.specs.Mode.{Mode}
use Rattle.jsonb_spec.specs.Code.{Code}
use Rattle.jsonb_spec.specs.Grammar.StringBody.{Item, raw, escape, unit, after_u, encoding, IsItem, IsHexDigit, meaning}
use Rattle.jsonb_spec.specs.Grammar.StringFault.{BadUnit, IsCutShort}
use Rattle.std.specs.Str.Parse.{digits_value}

-- a unit of four digits that aren't in braces
abbrev pub IsUnit : Item → Type 0
IsUnit (unit braces digits) = (braces ≡ false) × (length digits ≡ 4) × All IsHexDigit digits
IsUnit (raw byte) = ⊥
IsUnit (escape letter byte) = ⊥

-- the bytes are such units
pub record AreUnits (bytes : List ℕ) : Type 0 where
  pub items : List Item
  pub each : AllByRecursion IsUnit items
  pub encoded : bytes ≡ flat_map encoding items

-- what follows `\u` is four bytes, in braces or not, and then the rest
pub record SplitsUnit (bytes digits rest : List ℕ) : Type 0 where
  pub braces : Bool
  pub split : bytes ≡ after_u braces digits ++ rest
  pub four : length digits ≡ 4
  pub bare : braces ≡ false → slice_index digits 0 ≢ ascii.open_brace

-- the same, where the four bytes are the digits of this value
pub record ParsesUnit (bytes digits rest : List ℕ) (value : ℕ) : Type 0 where
  pub splits : SplitsUnit bytes digits rest
  pub each : All IsHexDigit digits
  pub is : value ≡ digits_value 16 digits
  pub range : value < 2 ^ 16

-- The bytes are items and then the rest, and these items add this text to the meaning, whatever items the rest is.
pub record DecodesUpTo (mode : Mode) (bytes rest text : List ℕ) : Type 0 where
  pub items : List Item
  pub each : AllByRecursion (IsItem mode) items
  pub encoded : bytes ≡ flat_map encoding items ++ rest
  pub meant : (tail : List Item) → rest ≡ flat_map encoding tail → meaning (items ++ tail) ≡ text ++ meaning tail
  pub short : length text + length rest ≤ length bytes

-- The bytes are items, which mean some text, and then the rest.
pub record IsDecodedUpTo (mode : Mode) (bytes rest : List ℕ) : Type 0 where
  pub text : List ℕ
  pub decodes : DecodesUpTo mode bytes rest text

-- new is old with the text that the items before the rest add
pub record Adds (mode : Mode) (bytes rest old new : List ℕ) : Type 0 where
  pub text : List ℕ
  pub appended : new ≡ old ++ text
  pub decodes : DecodesUpTo mode bytes rest text

-- a bad unit, at which so many of the bytes are left
pub record StopsInUnit (mode : Mode) (bytes : List ℕ) (code : Code) (left : ℕ) : Type 0 where
  pub steps : ℕ
  pub bad : BadUnit mode bytes code steps
  pub count : left + steps ≡ length bytes

-- items and a bad one, at which so many of the bytes are left
pub record StopsAtEscape (mode : Mode) (bytes : List ℕ) (code : Code) (left : ℕ) : Type 0 where
  pub read : ℕ
  pub cut : IsCutShort mode bytes code read
  pub count : left + read ≡ length bytes

-- The bytes are contents of a string: no bad item is among them.
abbrev pub AreContents : Mode → List ℕ → Type 0
AreContents mode bytes = (code : Code) → (left : ℕ) → StopsAtEscape mode bytes code left → ⊥

-- a backslash is among the first bytes
abbrev pub SeesBackslash : List ℕ → ℕ → Type 0
SeesBackslash bytes count = (k : ℕ) × (k < count) × (slice_index bytes k ≡ ascii.backslash)

-- no backslash is among the first bytes
abbrev pub SeesNoBackslash : List ℕ → ℕ → Type 0
SeesNoBackslash bytes count = (k : ℕ) → k < count → slice_index bytes k ≢ ascii.backslash

-- new is old with the bytes before the first backslash, and the rest begins with it or is empty
pub record CopiesRun (bytes rest old new : List ℕ) : Type 0 where
  pub run : List ℕ
  pub split : bytes ≡ run ++ rest
  pub clear : SeesNoBackslash run (length run)
  pub appended : new ≡ old ++ run
  pub begins : 0 < length rest → slice_index rest 0 ≡ ascii.backslash

-- whether a backslash is among the first bytes
abbrev pub ReportsBackslash : List ℕ → ℕ → Bool → Type 0
ReportsBackslash bytes count true = SeesBackslash bytes count
ReportsBackslash bytes count false = SeesNoBackslash bytes count

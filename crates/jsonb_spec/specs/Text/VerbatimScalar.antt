-- Scalars that are put in from where they are in a text.
use Rattle.std.specs.Prelude.{◌≡◌, ℕ, ◌<◌, ◌≤◌, ◌^◌, List, length, slice_range, unsigned_abs}
use Rattle.jsonb_spec.specs.Grammar.StandardNumber.{IsStandardNumber}
use Rattle.jsonb_spec.specs.Source.{Source, number_source, string_source}
use Rattle.jsonb_spec.specs.Text.{in_quotes}
use Rattle.jsonb_spec.specs.Tree.{Mark, Num}
use Rattle.jsonb_spec.specs.Text.JsonString.{IsJsonBody}
use Rattle.jsonb_spec.specs.Text.SourceText.{source_text}

-- From one index of the text to another is what is an integer in a standard text. The number is the same, whatever
-- its form, and is serialized as it is.
pub record IsIntegerAt (text : List ℕ) (from to : ℕ) (s : Source) : Type 0 where
  pub value : Num
  pub integer : Num
  pub is : s ≡ number_source value
  pub inside : to ≤ length text
  pub digits : IsStandardNumber (slice_range text from to) integer
  pub scale : value.scale ≡ integer.scale
  pub whole : value.whole ≡ integer.whole
  pub same : slice_range text from to ≡ source_text s

-- a number with digits behind a point, at most 18 in all
pub record IsShortDecimal (n : Num) : Type 0 where
  pub point : 0 < n.scale
  pub few : n.scale < 18
  pub small : unsigned_abs n.whole < 10 ^ 18

-- There is the text of such a number.
pub record IsDecimalAt (text : List ℕ) (from to : ℕ) (s : Source) : Type 0 where
  pub value : Num
  pub is : s ≡ number_source value
  pub inside : to ≤ length text
  pub short : IsShortDecimal value
  pub same : slice_range text from to ≡ source_text s

-- There is a string of JSON.
pub record IsJsonStringAt (text : List ℕ) (from to : ℕ) (s : Source) : Type 0 where
  pub mark : Mark
  pub body : List ℕ
  pub meaning : List ℕ
  pub is : s ≡ string_source mark meaning
  pub inside : to ≤ length text
  pub holds : slice_range text from to ≡ in_quotes body
  pub decodes : IsJsonBody body meaning

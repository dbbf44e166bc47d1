-- Strings of JSON with escapes.
use Rattle.std.specs.Prelude.{◌≡◌, ℕ, ◌-◌, ◌<◌, ◌≤◌, Bool, true, List, [], ◌∷◌, length, take, slice_index, Ok}
use Rattle.std.specs.List.{flat_map, AllByRecursion}
use Rattle.jsonb_spec.specs.Ascii as ascii
use Rattle.jsonb_spec.specs.Grammar.StringBody.{Item, raw, escape, unit, encoding}
use Rattle.jsonb_spec.specs.Source.{string_source}
use Rattle.jsonb_spec.specs.Text.StringText.{byte_text}
use Rattle.jsonb_spec.specs.Tree.{Mark, string}
use Rattle.text_parse.specs.Parser.{parse_at, rest_of}
use Rattle.text_parse.specs.declared.parser.Parser.{Parser}
use Rattle.jsonb_spec.specs.Parsing.Scalar.{quoted_at}
use Rattle.text_common.specs.VerbatimScalar.{IsVerbatimAt}
use Rattle.jsonb_spec.specs.Text.JsonString.{IsJsonItem}
use Rattle.text_common.specs.declared.verbatim.Verbatim.{Verbatim}

-- what the item means is written by the bytes that encode it
abbrev pub IsSameItem : Item → Type 0
IsSameItem (raw byte) = byte_text byte ≡ byte ∷ []
IsSameItem (escape letter byte) = byte_text byte ≡ ascii.backslash ∷ letter ∷ []
IsSameItem (unit braces digits) = ⊥

-- The first bytes are items of such a string, and are serialized as they are where that is reported.
pub record IsJsonFront (bytes : List ℕ) (end : ℕ) (is_same : Bool) : Type 0 where
  pub items : List Item
  pub within : end ≤ length bytes
  pub each : AllByRecursion IsJsonItem items
  pub encoded : take end bytes ≡ flat_map encoding items
  pub same : is_same ≡ true → AllByRecursion IsSameItem items

-- The closing quote is behind them.
pub record IsJsonEnd (bytes : List ℕ) (end : ℕ) (is_same : Bool) : Type 0 where
  pub front : IsJsonFront bytes end is_same
  pub within : end < length bytes
  pub quote : slice_index bytes end ≡ ascii.quote

-- Such a string was passed from the byte after its opening quote on.
pub record PassesJson (old new : Parser) (verbatim : Verbatim) : Type 0 where
  pub mark : Mark
  pub text : List ℕ
  pub parses : parse_at (λ size mode. quoted_at size mode ascii.quote) old ≡ Ok (string mark text, rest_of new)
  pub holds : IsVerbatimAt verbatim old.buf.now (old.offset - 1) new.offset (string_source mark text)

-- What begins with the next byte.
use Rattle.std.specs.Prelude.{◌≡◌, ℕ, true, false, List, ◌∷◌, drop, codes}
use Rattle.jsonb_spec.specs.Ascii as ascii
use Rattle.jsonb_spec.specs.Code.{expected_some_value}
use Rattle.jsonb_spec.specs.Mode.{Mode, Strictness, strictness}
use Rattle.jsonb_spec.specs.Tree.{Tree, boolean}
use Rattle.jsonb_spec.specs.Parsing.{Parse, begins, reject}
use Rattle.jsonb_spec.specs.Parsing.Scalar.{null_at, number_value_at, quoted_at, scalar_at, word_at}
use Rattle.text_parse.specs.declared.parser.start.Start.{Start}
use Rattle.text_parse.specs.declared.parser.start.Start.TheVariants as variants

-- what is parsed as a scalar where this begins: a container is none
abbrev pub scalar_from : Start → ℕ → Mode → List ℕ → Parse Tree
scalar_from variants.DoubleQuote size mode bytes = quoted_at size mode ascii.quote (drop 1 bytes)
scalar_from variants.SingleQuote size mode bytes = quoted_at size mode ascii.single_quote (drop 1 bytes)
scalar_from variants.Null size mode bytes = null_at size mode bytes
scalar_from variants.True size mode bytes = word_at size (strictness mode) (codes "true") (boolean true) bytes
scalar_from variants.False size mode bytes = word_at size (strictness mode) (codes "false") (boolean false) bytes
scalar_from variants.Number size mode bytes = number_value_at size mode bytes
scalar_from variants.Array size mode bytes = reject size expected_some_value 1 bytes
scalar_from variants.Object size mode bytes = reject size expected_some_value 1 bytes
scalar_from variants.NoValue size mode bytes = reject size expected_some_value 1 bytes

-- Where a start is a bracket, a brace or a quote, that byte comes next.
abbrev pub ComesNext : Start → List ℕ → Type 0
ComesNext variants.Array bytes = begins ascii.open_bracket bytes ≡ true
ComesNext variants.Object bytes = begins ascii.open_brace bytes ≡ true
ComesNext variants.DoubleQuote bytes = begins ascii.quote bytes ≡ true
ComesNext variants.SingleQuote bytes = begins ascii.single_quote bytes ≡ true
ComesNext variants.Null bytes = Unit {0}
ComesNext variants.True bytes = Unit {0}
ComesNext variants.False bytes = Unit {0}
ComesNext variants.Number bytes = Unit {0}
ComesNext variants.NoValue bytes = Unit {0}

-- This says what the bytes begin with.
pub record IsStart (start : Start) (mode : Mode) (bytes : List ℕ) : Type 0 where
  -- A scalar is parsed as what it says.
  pub scalar : (size : ℕ) → scalar_at size mode bytes ≡ scalar_from start size mode bytes
  -- A bracket, a brace or a quote comes next, where it says so.
  pub next : ComesNext start bytes

-- It does so where this byte comes next, in each mode of this strictness.
abbrev pub IsStartIn : Start → Strictness → ℕ → Type 0
IsStartIn start s byte =
    (mode : Mode) → strictness mode ≡ s → (rest : List ℕ) → IsStart start mode (byte ∷ rest)

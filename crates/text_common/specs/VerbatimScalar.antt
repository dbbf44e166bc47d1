-- Which scalar is put in from where it is in a text.
use Rattle.std.specs.Prelude.{◌≡◌, ℕ, List, slice_range}
use Rattle.jsonb_spec.specs.Source.{Source}
use Rattle.jsonb_spec.specs.Text.SourceText.{source_text}
use Rattle.text_common.specs.declared.verbatim.Verbatim.{Verbatim}
use Rattle.text_common.specs.declared.verbatim.Verbatim.TheVariants as verbatim
use Rattle.jsonb_spec.specs.Text.VerbatimScalar.{IsIntegerAt, IsDecimalAt, IsJsonStringAt}

-- the scalar of this kind that is there
abbrev pub IsVerbatimAt : Verbatim → List ℕ → ℕ → ℕ → Source → Type 0
IsVerbatimAt verbatim.Integer text from to s = IsIntegerAt text from to s
IsVerbatimAt verbatim.Decimal text from to s = IsDecimalAt text from to s
IsVerbatimAt verbatim.Same text from to s = IsJsonStringAt text from to s × (slice_range text from to ≡ source_text s)
IsVerbatimAt verbatim.Escaped text from to s = IsJsonStringAt text from to s

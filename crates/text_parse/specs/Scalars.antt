-- What a handler is given of scalars and keys.
use Rattle.std.specs.Prelude.{◌≡◌, ◌⊎◌, ℕ, Bool, true, List}
use Rattle.std.specs.Cow.{cow_str_bytes}
use Rattle.jsonb_spec.specs.Source.{Source, null_source, boolean_source, string_source, number_source}
use Rattle.jsonb_spec.specs.Tree.{Mark}
use Rattle.jsonb_spec.specs.Tree.Mark.{plain}
use Rattle.jsonb_core.specs.View.{mark_view, number_view}
use Rattle.text_parse.specs.declared.parser.text.Scalar.{Scalar}
use Rattle.text_parse.specs.declared.parser.text.Scalar.TheVariants as scalars
use Rattle.text_parse.specs.declared.parser.text.Text.{Text}
use Rattle.text_parse.specs.declared.parser.text.Text.TheVariants as texts
use Rattle.jsonb_spec.specs.Text.Encoded.{IsEncodedAt, KeyHoldsAt}
use Rattle.jsonb_spec.specs.Text.StringText.{ArePlain}
use Rattle.text_common.specs.VerbatimScalar.{IsVerbatimAt}
use Rattle.text_common.specs.declared.verbatim.Verbatim.{Verbatim}

-- the mark and the bytes of a string or a key
abbrev pub text_view : Text → Mark × List ℕ
text_view (texts.Plain t) = (plain, t.now)
text_view (texts.Borrowed t) = (plain, t.now)
text_view (texts.Decoded t) = (mark_view t, cow_str_bytes t)

-- It was cut out of the text, and none of its bytes is written as an escape where that is reported.
abbrev pub IsCut : Text → Type 0
IsCut (texts.Plain t) = ArePlain t.now
IsCut (texts.Borrowed t) = Unit {0}
IsCut (texts.Decoded t) = ⊥

-- What is made of a scalar is of its source; or is held, where integers are.
abbrev pub SeesScalar : {V : Type 0} → (V → Source → Type 0) → (Verbatim → V → Type 0) → Bool → V → Scalar → Type 0
SeesScalar Sees IsVerbatim preserves v scalars.Null = Sees v null_source
SeesScalar Sees IsVerbatim preserves v (scalars.Bool b) = Sees v (boolean_source b)
SeesScalar Sees IsVerbatim preserves v (scalars.Number n) = Sees v (number_source (number_view n))
SeesScalar Sees IsVerbatim preserves v (scalars.String (texts.Plain t)) = ArePlain t.now → Sees v (string_source plain t.now)
SeesScalar Sees IsVerbatim preserves v (scalars.String (texts.Borrowed t)) = Sees v (string_source plain t.now)
SeesScalar Sees IsVerbatim preserves v (scalars.String (texts.Decoded t)) =
    Sees v (string_source (mark_view t) (cow_str_bytes t))
SeesScalar Sees IsVerbatim preserves v (scalars.Verbatim verbatim) = preserves ≡ true → IsVerbatim verbatim v

-- The value is held as what is in the text between two indices, which is of this source.
pub record IsVerbatimAs {V : Type 0} (IsVerbatim : Verbatim → V → Type 0) (v : V) (from to : ℕ) (text : List ℕ) (s : Source)
    : Type 0 where
  pub verbatim : Verbatim
  pub is : IsVerbatim verbatim v
  pub holds : IsVerbatimAt verbatim text from to s

-- The value is of this source, and is in the text between two indices; or it is held as what is there.
abbrev pub IsGiven : {V : Type 0} → (V → Source → Type 0) → (Verbatim → V → Type 0) → V → ℕ → ℕ → List ℕ → Source → Type 0
IsGiven Sees IsVerbatim v from to text s = (Sees v s × IsEncodedAt text from to s) ⊎ IsVerbatimAs IsVerbatim v from to text s

-- A key that was cut out of the text is there between two indices, after its opening quote.
abbrev pub IsKeyAt : List ℕ → Text → ℕ → ℕ → Type 0
IsKeyAt bytes (texts.Plain t) from after = KeyHoldsAt bytes t.now from after × ArePlain t.now
IsKeyAt bytes (texts.Borrowed t) from after = KeyHoldsAt bytes t.now from after
IsKeyAt bytes (texts.Decoded t) from after = Unit {0}

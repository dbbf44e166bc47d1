-- What is found of a place where a part is due.
use Rattle.std.specs.Prelude.{◌≡◌, ℕ, Bool, true, false, ◌||◌, ◌&&◌, not, ◌==◌, List, [], ◌∷◌, Option, if◌then◌else◌}
use Rattle.jsonb_spec.specs.Path.ErrorPath.{HasAt, RepeatsSome, completed, literal}
use Rattle.error_path.specs.declared.place.Put.{Put}
use Rattle.error_path.specs.declared.place.Put.TheVariants.{Elsewhere, Repeated, There}
use Rattle.jsonb_spec.specs.Ascii as ascii
use Rattle.jsonb_spec.specs.Code.{Code, unexpected_trailing_characters}
use Rattle.jsonb_spec.specs.Mode.{Mode, Strictness, lenient, strict}
use Rattle.jsonb_spec.specs.Parsing.{begins}
use Rattle.jsonb_spec.specs.Parsing.Whitespace.{opens_comment}

-- of a text in which a value was put
abbrev pub IsPut : Put → Mode → List ℕ → List (List ℕ) → List ℕ → Type 0
IsPut There mode text keys written = HasAt mode text keys written
IsPut Repeated mode text keys written = RepeatsSome mode text
IsPut Elsewhere mode text keys written = Unit {0}

-- of each of two values
abbrev pub AreLed : Put → Mode → List ℕ → Option ℕ → List ℕ → List (List ℕ) → Type 0
AreLed There mode front lacking closers keys =
    (value : Bool) → HasAt mode (completed front lacking closers value) keys (literal value)
AreLed Repeated mode front lacking closers keys =
    (value : Bool) × RepeatsSome mode (completed front lacking closers value)
AreLed Elsewhere mode front lacking closers keys = Unit {0}

-- whether the code is that of bytes after a value
abbrev pub is_trailing : Code → Bool
is_trailing unexpected_trailing_characters = true
is_trailing other = false

-- whether a part ends before this byte
abbrev pub ends_before : ℕ → List ℕ → Bool
ends_before byte [] = false
ends_before byte (close ∷ closers) = (byte == ascii.comma) || (byte == close)

-- whether an element is left out here
abbrev pub leaves_out : Strictness → List ℕ → List ℕ → Bool
leaves_out strict closers bytes = false
leaves_out lenient closers [] = false
leaves_out lenient closers (byte ∷ bytes) = begins ascii.close_bracket closers && ends_before byte closers

-- whether this byte is lacking: a colon, or a comma before a comment
abbrev pub lacks : ℕ → Strictness → List ℕ → Bool
lacks byte strictness bytes =
    if byte == ascii.colon then not (begins ascii.colon bytes)
    else ((byte == ascii.comma) && opens_comment strictness bytes)

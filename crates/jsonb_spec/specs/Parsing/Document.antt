-- Values by depth, and whole documents (`source_of`, `document_of`).
use Rattle.std.specs.Prelude.{ℕ, zero, suc, ◌+◌, ◌-◌, List, [], ◌∷◌, length, Result, Ok, if◌then◌else◌}
use Rattle.jsonb_spec.specs.Ascii as ascii
use Rattle.jsonb_spec.specs.Mode.{Mode, Strictness, strict, lenient, strictness}
use Rattle.jsonb_spec.specs.Tree.{Tree}
use Rattle.jsonb_spec.specs.Code.{invalid_eof, unexpected_trailing_characters, depth_limit_exceeded}
use Rattle.jsonb_spec.specs.Grammar.{max_depth}
use Rattle.jsonb_spec.specs.Source.{Source, null_source, source_alone, tree_of_source}
use Rattle.jsonb_spec.specs.Parsing.{Fault, Parse, ◌>>=◌, on_byte, begins, fault}
use Rattle.jsonb_spec.specs.Parsing.Whitespace.{opens_comment, skip_closed_whitespace}
use Rattle.jsonb_spec.specs.Parsing.Scalar.{scalar_at}
use Rattle.jsonb_spec.specs.Parsing.Container.{array_at, object_at}

-- a value that holds no others
abbrev pub alone_at : Parse Tree → Parse Source
alone_at read = read >>= λ x. Ok (source_alone x.0, x.1)

abbrev pub value_with : ℕ → Mode → (List ℕ → Parse Source) → (List ℕ → Parse Source) → List ℕ → Parse Source
value_with size mode array object bytes =
    on_byte ascii.open_bracket bytes array
    (on_byte ascii.open_brace bytes object (alone_at (scalar_at size mode bytes)))

abbrev pub too_deep : ℕ → List ℕ → Parse Source
too_deep size rest = fault depth_limit_exceeded (size - length rest)

-- a value that begins here, with arrays and objects nested no deeper than the number
unfoldable pub value_at : ℕ → Mode → ℕ → List ℕ → Parse Source
value_at size mode zero = value_with size mode (too_deep size) (too_deep size)
value_at size mode (suc depth) =
    value_with size mode (array_at size mode (value_at size mode depth))
    (object_at size mode (value_at size mode depth))

-- the end of a text in a comment without its end, from the byte after the slash on: a line comment ends with the text
abbrev pub comment_at : ℕ → Source → List ℕ → Result Source Fault
comment_at size s bytes = if begins ascii.slash bytes then Ok s else fault invalid_eof size

abbrev pub at_end : ℕ → Mode → Source → List ℕ → Result Source Fault
at_end size mode s [] = Ok s
at_end size mode s (b ∷ bytes) = if opens_comment (strictness mode) (b ∷ bytes) then comment_at size s bytes
    else fault unexpected_trailing_characters (size - length (b ∷ bytes) + 1)

-- a text of whitespace alone
abbrev pub nothing_at : ℕ → Strictness → Result Source Fault
nothing_at size strict = fault invalid_eof size
nothing_at size lenient = Ok null_source

-- a value with whitespace after it, up to the end of the text
abbrev pub value_to_end : ℕ → Mode → List ℕ → Result Source Fault
value_to_end size mode bytes =
    value_at size mode max_depth bytes >>= λ x. at_end size mode x.0 (skip_closed_whitespace mode x.1)

abbrev pub source_from : ℕ → Mode → List ℕ → Result Source Fault
source_from size mode [] = nothing_at size (strictness mode)
source_from size mode (b ∷ bytes) =
    if opens_comment (strictness mode) (b ∷ bytes) then comment_at size null_source bytes
    else value_to_end size mode (b ∷ bytes)

-- the source of a whole text
unfoldable pub source_of : Mode → List ℕ → Result Source Fault
source_of mode bytes = source_from (length bytes) mode (skip_closed_whitespace mode bytes)

-- the tree of a whole text
unfoldable pub document_of : Mode → List ℕ → Result Tree Fault
document_of mode bytes = source_of mode bytes >>= λ s. Ok (tree_of_source s)

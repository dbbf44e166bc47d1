-- What a command makes of one text: yes or no, and the part of the output that is the text's.
use Rattle.std.specs.Prelude.{◌≡◌, ℕ, nat_lt, Bool, true, false, if◌then◌else◌, List, [], ◌∷◌, ◌++◌, drop, length, map, None, Some, string_bytes, String, MatchBool, unwrap_or}
use Rattle.std.specs.List.{AllZip, Any, flat_map}
use Rattle.std.specs.declared.alloc.Global.{Global}
use Rattle.jsonb_spec.specs.Tree.{Tree}
use Rattle.vjson_text.specs.Texts.{AppendsDifferences, AppendsTextOf, IsTextOf, IsNoTextOf}
use Rattle.jsonb_spec.specs.Program.Input.{without_mark}
use Rattle.jsonb_spec.specs.Program.Raw.{IsRaw}
use Rattle.text_scan.specs.declared.parser.Grammar.{Grammar}
use Rattle.vjson_text.specs.declared.reader.Layout.{Layout}
use Rattle.vjson_text.specs.declared.reader.Layout.TheVariants.{Compact, Indent}
use Rattle.jsonb_spec.specs.Program.Colours.{IsShownAs}
use Rattle.vjson_run.specs.Keys.{IsKeyOf, IsPartOf, LacksPart}
use Rattle.jsonb_spec.specs.Program.Keys.{keys_of}
use Rattle.jsonb_spec.specs.Program.KeyLine.{key_line}
use Rattle.vjson_run.specs.declared.options.Command.{Command}
use Rattle.vjson_run.specs.declared.options.Command.TheVariants.{Check, Diff, Equal, Format, Get, Sort, Keys}
use Rattle.vjson_run.specs.declared.options.Options.{Options}
use Rattle.vjson_run.specs.declared.options.Part.{Part}
use Rattle.jsonb_spec.specs.Program.Printed.{printed, first_keys, cell_byte, separator, separated, row_of}

-- by `sort --check`
abbrev pub asked : Command → Bool → Bool
asked Sort check = check
asked command check = false

-- whether texts are compared
abbrev pub compares : Command → Bool
compares Equal = true
compares Diff = true
compares command = false

-- the text is one of the grammar
abbrev pub IsOne : Grammar → List ℕ → Type 0
IsOne grammar text = (t : Tree) × IsTextOf grammar text t

-- whether it is asked whether lines are in order
abbrev pub checks_order : Options → Bool
checks_order options = asked options.command options.check

-- how texts are laid out: as asked for, and else lines compactly, and a whole file with two spaces a level
abbrev pub layout_of : Options → Layout
layout_of options = unwrap_or options.layout (if options.lines then Compact else Indent 2)

-- the paths at which `get` asks for parts: that of the whole where none is given
abbrev pub paths_of : Options → List (List (List ℕ))
paths_of options = first_keys options.paths.items ∷ map keys_of (drop 1 options.paths.items)

-- What `format` prints: the text laid out, as a terminal has it.
abbrev pub IsLaidOut : Options → List ℕ → List ℕ → Type 0
IsLaidOut options text bytes =
    (laid : List ℕ) × AppendsTextOf options.grammar (layout_of options) text [] laid × IsShownAs options.colours laid bytes

-- one part alone as it is, and of several each as a cell
abbrev pub cell_of : Options → List ℕ → List ℕ
cell_of options bytes = if nat_lt (length options.paths.items) 2 then bytes else flat_map cell_byte bytes

-- the serialized form of a part, without quotes and escapes
pub record IsRawCell (options : Options) (part bytes : List ℕ) : Type 0 where
  pub raw : List ℕ
  pub is_raw : IsRaw part raw
  pub cell : bytes ≡ cell_of options raw

-- What `get` prints of the serialized form of a part: that, or with `--raw` the characters of a string.
abbrev pub IsShown : Options → List ℕ → List ℕ → Type 0
IsShown options part bytes = MatchBool options.raw (IsRawCell options part bytes) (IsShownAs options.colours part bytes)

-- What `get` prints for a path: the text's part there, or the default where it has none.
pub data IsCell (options : Options) (text : List ℕ) (keys : List (List ℕ)) (bytes : List ℕ) : Type 0 where
  shown_part : (part : List ℕ) → IsPartOf options.grammar keys text part → IsShown options part bytes → IsCell options text keys bytes
  given_default : (given : String Global) → LacksPart options.grammar keys text → options.default ≡ Some given
      → bytes ≡ string_bytes given → IsCell options text keys bytes

-- What `get` prints of a text: a row with a cell for each path.
pub record IsFound (options : Options) (text bytes : List ℕ) : Type 0 where
  pub cells : List (List ℕ)
  pub each : AllZip (IsCell options text) (paths_of options) cells
  pub row : bytes ≡ row_of options.array (separated options.array cells)

-- The text is one of the grammar, and lacks a part that is asked for.
abbrev pub LacksSome : Options → List ℕ → Type 0
LacksSome options text = Any (λ keys. LacksPart options.grammar keys text) (paths_of options)

-- What `count` prints of a part: its serialized form, or nothing where the text lacks it.
pub data IsCounted (grammar : Grammar) (text : List ℕ) (part : Part) (cell : List ℕ) : Type 0 where
  counted_part : IsPartOf grammar (keys_of part.path) text cell → IsCounted grammar text part cell
  counted_none : LacksPart grammar (keys_of part.path) text → cell ≡ [] → IsCounted grammar text part cell

-- the parts that texts are counted by, each behind a tab
abbrev pub AreCounted : Options → List ℕ → List ℕ → Type 0
AreCounted options text line =
    (cells : List (List ℕ)) × AllZip (IsCounted options.grammar text) options.by.items cells × (line ≡ separated false cells)

-- The line of a text that is sorted: the text itself, or with `--canonical` its serialized form; of `count` the parts.
abbrev pub IsLineText : Options → List ℕ → List ℕ → Type 0
IsLineText options text line = MatchBool options.count (AreCounted options text line)
    (MatchBool options.canonical (AppendsTextOf options.grammar Compact text [] line) (line ≡ text))

-- The text is one of the grammar, this is the key that it is sorted by, and this is its line.
pub record IsKeyed (options : Options) (text key line : List ℕ) : Type 0 where
  pub is_key : IsKeyOf options text key
  pub is_line : IsLineText options text line

-- new is old with what is shown at its end
pub record AppendsOne (IsOneOf : List ℕ → Type 0) (old new : List ℕ) : Type 0 where
  pub bytes : List ℕ
  pub is_one : IsOneOf bytes
  pub appended : new ≡ old ++ bytes

-- new is old with what `get` prints for a path at its end, behind a separator
pub record AppendsCell (options : Options) (keys : List (List ℕ)) (text old new : List ℕ) : Type 0 where
  pub cell : List ℕ
  pub is_cell : IsCell options text keys cell
  pub appended : new ≡ old ++ separator options.array ∷ cell

-- new is old with what `count` prints of the part at its end, behind a tab
pub record AppendsCounted (grammar : Grammar) (part : Part) (text old new : List ℕ) : Type 0 where
  pub cell : List ℕ
  pub is_counted : IsCounted grammar text part cell
  pub appended : new ≡ old ++ separator false ∷ cell

-- new is old with the text's line at its end
pub record AppendsLine (options : Options) (text old new : List ℕ) : Type 0 where
  pub line : List ℕ
  pub is_line : IsLineText options text line
  pub appended : new ≡ old ++ line

-- new is old with the text's line behind its key at its end
pub record PrintsKeyed (options : Options) (text old new : List ℕ) : Type 0 where
  pub key : List ℕ
  pub line : List ℕ
  pub keyed : IsKeyed options text key line
  pub appended : new ≡ old ++ key_line key line

-- What a command answers to a text, yes or no, and what it prints of it.
pub data Answers (options : Options) (text : List ℕ) : Bool → List ℕ → Type 0 where
  checked : options.command ≡ Check → IsOne options.grammar text → Answers options text true []
  laid_out : (bytes : List ℕ) → options.command ≡ Format → IsLaidOut options text bytes → Answers options text true (printed bytes)
  found : (bytes : List ℕ) → options.command ≡ Get → IsFound options text bytes → Answers options text true (printed bytes)
  lacking : options.command ≡ Get → LacksSome options text → options.default ≡ None → Answers options text false []
  keyed : (key line : List ℕ) → options.command ≡ Keys → IsKeyed options text key line → Answers options text true (key_line key line)
  told : (good : Bool) (bytes : List ℕ) → options.command ≡ Diff
      → AppendsDifferences options.grammar (without_mark options.base.items) text [] bytes good → Answers options text good bytes
  rejected : IsNoTextOf options.grammar text → Answers options text false []

-- A text whose lines are texts of their own: what is written of them.
use Rattle.std.specs.Prelude.{◌≡◌, ◌⊎◌, ℕ, ◌+◌, ◌<◌, ◌==◌, List, [], ◌∷◌, ◌++◌, length, if◌then◌else◌}
use Rattle.jsonb_spec.specs.Ascii as ascii
use Rattle.jsonb_spec.specs.Grammar.{IsDocument}
use Rattle.jsonb_spec.specs.Mode.{Mode}
use Rattle.jsonb_spec.specs.Text.{tree_text}
use Rattle.jsonb_spec.specs.Tree.{Tree}
use Rattle.jsonb_spec.specs.Parsing.Appends.{IsParsed}

-- the lines with this byte before those of the first one
abbrev pub with_first : ℕ → List (List ℕ) → List (List ℕ)
with_first byte [] = (byte ∷ []) ∷ []
with_first byte (line ∷ lines) = (byte ∷ line) ∷ lines

-- the lines of bytes, each without its line feed, which the last one may lack
abbrev pub lines_of : List ℕ → List (List ℕ)
lines_of [] = []
lines_of (byte ∷ bytes) =
    if byte == ascii.line_feed then [] ∷ lines_of bytes else with_first byte (lines_of bytes)

-- new is old with the text of the line's document and a line feed
pub record AppendsTextOfLine (mode : Mode) (line old new : List ℕ) : Type 0 where
  pub tree : Tree
  pub parsed : IsParsed mode line tree
  pub appended : new ≡ old ++ (tree_text tree ++ ascii.line_feed ∷ [])

-- new is old with that for each of the lines
abbrev pub AppendsTextOfLines : Mode → List (List ℕ) → List ℕ → List ℕ → Type 0
AppendsTextOfLines mode [] old new = new ≡ old
AppendsTextOfLines mode (line ∷ lines) old new =
    (more : List ℕ) × AppendsTextOfLine mode line old more × AppendsTextOfLines mode lines more new

-- The line is a document, and a buffer of this capacity with this many bytes has no space for its text and a line feed.
pub record LacksCapacityForLine (mode : Mode) (line : List ℕ) (capacity len : ℕ) : Type 0 where
  pub tree : Tree
  pub document : IsDocument mode line tree
  pub too_short : capacity < len + (length (tree_text tree) + 1)

-- The lines up to one of them are documents, for whose texts such a buffer has no space.
abbrev pub LacksCapacityForLines : Mode → List (List ℕ) → ℕ → ℕ → Type 0
LacksCapacityForLines mode [] capacity len = ⊥
LacksCapacityForLines mode (line ∷ lines) capacity len =
    LacksCapacityForLine mode line capacity len
    ⊎ ((tree : Tree) × IsDocument mode line tree
    × LacksCapacityForLines mode lines capacity (len + (length (tree_text tree) + 1)))

-- The line that begins at this offset is such a one, and those before it are of the other kind.
abbrev pub IsFirstOfLines : (List ℕ → Type 0) → (List ℕ → Type 0) → List (List ℕ) → ℕ → Type 0
IsFirstOfLines Is IsBefore [] offset = ⊥
IsFirstOfLines Is IsBefore (line ∷ lines) offset =
    ((offset ≡ 0) × Is line)
    ⊎ (IsBefore line × (behind : ℕ) × (offset ≡ length line + 1 + behind) × IsFirstOfLines Is IsBefore lines behind)

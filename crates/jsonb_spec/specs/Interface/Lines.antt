-- What the statuses say of a text whose lines are texts of their own.
use Rattle.std.specs.Prelude.{◌≡◌, ◌⊎◌, ℕ, List, [], ◌∷◌}
use Rattle.jsonb_spec.specs.Mode.{Mode}
use Rattle.jsonb_spec.specs.Parsing.Lines.{AppendsTextOfLines, lines_of}
use Rattle.jsonb_spec.specs.Parsing.Memory.{MayAllocate}
use Rattle.jsonb_spec.specs.Interface.{NumberChooses, IsAccepted}

-- The number chooses a mode in which each line of the text is a document, and the bytes are the texts of these, each with
-- a line feed behind it.
pub record AreTextsOfLines (number : ℕ) (text bytes : List ℕ) : Type 0 where
  pub mode : Mode
  pub chosen : NumberChooses number mode
  pub written : AppendsTextOfLines mode (lines_of text) [] bytes

-- The text may allocate, or its first line is a document, of which something is written.
abbrev pub LinesMayAllocate : ℕ → List ℕ → Type 0
LinesMayAllocate number text = MayAllocate text
    ⊎ ((line : List ℕ) × (lines : List (List ℕ)) × (lines_of text ≡ line ∷ lines) × IsAccepted number line)

-- What is printed of a text, and the steps of a path.
use Rattle.std.specs.Prelude.{◌≡◌, ℕ, ◌==◌, Bool, if◌then◌else◌, List, [], ◌∷◌, ◌++◌, drop, None, Some, Option, String, Vec}
use Rattle.std.specs.List.{flat_map}
use Rattle.std.specs.declared.alloc.Global.{Global}
use Rattle.jsonb_spec.specs.Ascii as ascii
use Rattle.jsonb_spec.specs.Program.Keys.{keys_of}

-- what is printed of a text, and a line feed
abbrev pub printed : List ℕ → List ℕ
printed bytes = bytes ++ ascii.line_feed ∷ []

-- the keys of the first path, if there is one
abbrev pub first_keys : List (Vec (String Global) Global) → List (List ℕ)
first_keys [] = []
first_keys (path ∷ paths) = keys_of path

-- the letter by which a cell has what ends cells and lines, and a backslash
abbrev pub cell_letter : ℕ → Option ℕ
cell_letter byte =
    if byte == ascii.tab then Some ascii.lower_t
    else if byte == ascii.line_feed then Some ascii.lower_n
    else if byte == ascii.carriage_return then Some ascii.lower_r
    else if byte == ascii.backslash then Some ascii.backslash
    else None

-- a byte of a cell: that letter behind a backslash, or the byte
abbrev pub lettered : ℕ → Option ℕ → List ℕ
lettered byte None = byte ∷ []
lettered byte (Some letter) = ascii.backslash ∷ letter ∷ []

abbrev pub cell_byte : ℕ → List ℕ
cell_byte byte = lettered byte (cell_letter byte)

-- between two parts: a tab, or in an array a comma
abbrev pub separator : Bool → ℕ
separator array = if array then ascii.comma else ascii.tab

-- each cell behind a separator
abbrev pub separated : Bool → List (List ℕ) → List ℕ
separated array cells = flat_map (λ cell. separator array ∷ cell) cells

-- the cells between separators, or with `--array` between brackets
abbrev pub row_of : Bool → List ℕ → List ℕ
row_of array bytes =
    if array then ascii.open_bracket ∷ (drop 1 bytes ++ ascii.close_bracket ∷ []) else drop 1 bytes

-- new is old with what is printed at its end, and a line feed
pub record Prints (IsPrinted : List ℕ → Type 0) (old new : List ℕ) : Type 0 where
  pub bytes : List ℕ
  pub is_printed : IsPrinted bytes
  pub appended : new ≡ old ++ printed bytes

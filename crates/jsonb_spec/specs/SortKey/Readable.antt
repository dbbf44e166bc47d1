-- Which values calls over sort keys are about.
use Rattle.std.specs.Prelude.{◌≡◌, ◌≢◌, ◌%◌, ◌⊎◌, ℕ, unsigned_abs, ⊤}
use Rattle.jsonb_spec.specs.Grammar.{max_depth}
use Rattle.jsonb_spec.specs.Proper.{IsProper}
use Rattle.jsonb_spec.specs.Text.Range.{IsWithin}
use Rattle.jsonb_spec.specs.Tree.{Num, Tree}

-- any number
abbrev pub IsAnyNumber : Num → Type 0
IsAnyNumber n = ⊤

-- A number with no digit that could be left out: it has no digits after the point, or its last digit isn't 0.
abbrev pub HasFewestDigits : Num → Type 0
HasFewestDigits n = (n.scale ≡ 0) ⊎ (unsigned_abs n.whole % 10 ≢ 0)

-- The tree of a value of JSON's kinds, with arrays and objects nested no deeper than the number.
pub record IsReadableAt (depth : ℕ) (t : Tree) : Type 0 where
  pub proper : IsProper t
  pub within : IsWithin IsAnyNumber t depth

-- The tree of a value of JSON's kinds, with at most 512 arrays and objects in one another.
abbrev pub IsReadable : Tree → Type 0
IsReadable t = IsReadableAt max_depth t

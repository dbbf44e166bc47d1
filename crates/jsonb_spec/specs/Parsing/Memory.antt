-- Which texts a parser may ask for memory for.
use Rattle.std.specs.Prelude.{◌⊎◌, ℕ, List, Contains}
use Rattle.jsonb_spec.specs.Ascii as ascii

-- The input holds a bracket or a brace that opens, or a backslash: a parser that asks for memory has met one.
abbrev pub MayAllocate : List ℕ → Type 0
MayAllocate input =
    Contains input ascii.open_bracket ⊎ (Contains input ascii.open_brace ⊎ Contains input ascii.backslash)

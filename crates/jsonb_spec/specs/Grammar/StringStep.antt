-- The step over an item by its first bytes.
use Rattle.std.specs.Prelude.{ℕ, ◌+◌, if◌then◌else◌, ◌==◌, List, [], ◌∷◌}
use Rattle.jsonb_spec.specs.Ascii as ascii

-- the step after `\u`
abbrev pub unit_step : List ℕ → ℕ
unit_step [] = 0
unit_step (first ∷ rest) = if first == ascii.open_brace then 6 else 4

-- the step after a backslash
abbrev pub escape_step : List ℕ → ℕ
escape_step [] = 0
escape_step (letter ∷ rest) = if letter == ascii.lower_u then 1 + unit_step rest else 1

-- the step over an item
abbrev pub item_step : List ℕ → ℕ
item_step [] = 0
item_step (byte ∷ rest) = if byte == ascii.backslash then 1 + escape_step rest else 1

-- The parts of a number's text.
use Rattle.std.specs.Prelude.{List, ℕ, ◌++◌, replicate}
use Rattle.jsonb_spec.specs.Ascii as ascii
use Rattle.jsonb_core.specs.declared.number.text.TextParts.{TextParts}

-- the pieces joined, with zeros before the last
abbrev pub bytes_of_parts : TextParts → List ℕ
bytes_of_parts p = p.sign.now ++ (p.front.now ++ (p.point.now ++ (replicate p.zeros ascii.digit_zero ++ p.back.now)))

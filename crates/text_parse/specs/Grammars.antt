-- What the parser asks of the grammar.
use Rattle.std.specs.Prelude.{ℕ, Bool, true, false, not, List, [], ◌∷◌}
use Rattle.jsonb_spec.specs.Mode.{Mode, standard, extended, json, extended_json, Strictness, strict, lenient}
use Rattle.jsonb_spec.specs.Parsing.ExactNumber.{exact_to, extended_json_scan}
use Rattle.jsonb_spec.specs.Parsing.ExtendedNumber.{Scanned}
use Rattle.jsonb_spec.specs.Parsing.Number.{standard_end}

-- RFC 8259 to the letter
abbrev pub is_json : Mode → Bool
is_json standard = false
is_json extended = false
is_json json = true
is_json extended_json = false

-- the grammar has decimals
abbrev pub takes_decimals : Mode → Bool
takes_decimals standard = false
takes_decimals extended = true
takes_decimals json = true
takes_decimals extended_json = true

-- the grammar has exponents, which are counted exactly
abbrev pub takes_exponents : Mode → Bool
takes_exponents standard = false
takes_exponents extended = false
takes_exponents json = true
takes_exponents extended_json = true

-- what the number text is that the bytes begin with, and its exact number
abbrev pub exact_scan : Strictness → List ℕ → Scanned
exact_scan strict bytes = exact_to bytes (standard_end bytes)
exact_scan lenient bytes = extended_json_scan bytes

-- Strings may be cut out of the text up to the next quote or backslash. In JSON a control character is an error, so
-- there they may be so only where each byte is looked at, or where there is no text.
abbrev pub may_cut : Bool → List ℕ → Mode → Bool
may_cut true text mode = true
may_cut false [] mode = true
may_cut false (byte ∷ text) mode = not (is_json mode)

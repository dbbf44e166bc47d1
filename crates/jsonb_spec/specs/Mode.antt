-- The four grammars, and what two of them have in common.
use Rattle.std.specs.Prelude.{◌≡◌, ⊤}

-- `json` is RFC 8259 to the letter, with exact decimals; `standard` has more whitespace and escapes, and integers
-- alone; `extended_json` is `extended` with exponents.
pub data Mode : Type 0 where
  standard : Mode
  extended : Mode
  json : Mode
  extended_json : Mode

-- which words, quotes, keys and elements a mode has
pub data Strictness : Type 0 where
  strict : Strictness
  lenient : Strictness

abbrev pub strictness : Mode → Strictness
strictness standard = strict
strictness extended = lenient
strictness json = strict
strictness extended_json = lenient

-- the mode has comments, single quotes, bare keys, words in either case, and null where an element is left out
abbrev pub IsLenient : Mode → Type 0
IsLenient mode = strictness mode ≡ lenient

-- the mode has whitespace that RFC 8259 hasn't, control characters in strings, and digits of a unit in braces
abbrev pub GoesBeyondJson : Mode → Type 0
GoesBeyondJson standard = ⊤
GoesBeyondJson extended = ⊤
GoesBeyondJson json = ⊥
GoesBeyondJson extended_json = ⊤

-- Scalars that are in the text as they are serialized, or nearly so.
use Rattle.std.specs.Prelude.{◌≡◌, ℕ, ◌<◌, ◌-◌, true, false, List, slice_range, codes}
use Rattle.jsonb_spec.specs.Grammar.StandardNumber.{IsStandardNumber}
use Rattle.jsonb_spec.specs.Text.{in_quotes}
use Rattle.jsonb_spec.specs.Tree.{plain, escaped}
use Rattle.jsonb_spec.specs.Source.{Source, null_source, boolean_source, string_source, number_source, array_source, object_source}

-- These bytes are a word in small letters, an integer of a standard text, or a string in double quotes without escapes.
abbrev pub IsEncoded : List ℕ → Source → Type 0
IsEncoded bytes null_source = bytes ≡ codes "null"
IsEncoded bytes (boolean_source true) = bytes ≡ codes "true"
IsEncoded bytes (boolean_source false) = bytes ≡ codes "false"
IsEncoded bytes (string_source plain text) = bytes ≡ in_quotes text
IsEncoded bytes (string_source escaped text) = ⊥
IsEncoded bytes (number_source n) = IsStandardNumber bytes n
IsEncoded bytes (array_source ss) = ⊥
IsEncoded bytes (object_source ms) = ⊥

-- The scalar is in the text from one index to another. Where these are the same, nothing is said.
abbrev pub IsEncodedAt : List ℕ → ℕ → ℕ → Source → Type 0
IsEncodedAt text from to s = from < to → IsEncoded (slice_range text from to) s

-- A key without escapes is in the text between double quotes: its first byte at one index, and behind its closing
-- quote the other.
abbrev pub KeyHoldsAt : List ℕ → List ℕ → ℕ → ℕ → Type 0
KeyHoldsAt text key from after = 0 < from → slice_range text (from - 1) after ≡ in_quotes key

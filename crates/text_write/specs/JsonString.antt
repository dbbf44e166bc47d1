-- How strings of JSON are written: as text, or as their bytes are in a sort key.
use Rattle.std.specs.Prelude.{◌≡◌, ◌⊎◌, ℕ, ◌≤◌, Bool, true, false, List, [], ◌∷◌, ◌++◌, length, drop}
use Rattle.std.specs.List.{flat_map}
use Rattle.jsonb_spec.specs.Ascii as ascii
use Rattle.jsonb_spec.specs.SortKey.{byte_key}
use Rattle.jsonb_spec.specs.Text.StringText.{byte_text}
use Rattle.jsonb_spec.specs.Text.JsonString.{IsJsonBody}

-- a byte: with the escape that a text needs (true), or as it is
abbrev pub written_byte : Bool → ℕ → List ℕ
written_byte true byte = byte_text byte
written_byte false byte = byte ∷ []

-- the bytes of a text so
abbrev pub written_bytes : Bool → List ℕ → List ℕ
written_bytes as_text text = flat_map (written_byte as_text) text

-- No byte of it is zero.
abbrev pub HasNoZero : List ℕ → Type 0
HasNoZero text = flat_map byte_key text ≡ text

-- Where the bytes are contents of such a string, the first of them are written, and what follows are contents too.
pub record WritesFront (as_text : Bool) (bytes text old new : List ℕ) (count : ℕ) : Type 0 where
  pub left : List ℕ
  pub within : count ≤ length bytes
  pub short : IsJsonBody (drop count bytes) left
  pub written : new ++ written_bytes as_text left ≡ old ++ written_bytes as_text text
  pub zeros : HasNoZero left → HasNoZero text

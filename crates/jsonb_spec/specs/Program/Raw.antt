-- The characters of a string, taken out of its serialized form.
use Rattle.std.specs.Prelude.{◌≡◌, ◌==◌, ℕ, List, ◌++◌, slice_index, MatchBool, ◌+◌, ◌<◌, length}
use Rattle.jsonb_spec.specs.Ascii as ascii
use Rattle.jsonb_spec.specs.Grammar.{IsDocument}
use Rattle.jsonb_spec.specs.Mode.{extended}
use Rattle.jsonb_spec.specs.Tree.{Tree, string}

-- the bytes of a string, and of another tree the text
abbrev pub raw_of : Tree → List ℕ → List ℕ
raw_of (string mark bytes) text = bytes
raw_of t text = text

-- Of a document in quotes the bytes of its string, and else the text itself.
abbrev pub IsRaw : List ℕ → List ℕ → Type 0
IsRaw text raw =
    MatchBool (slice_index text 0 == ascii.quote) ((t : Tree) × IsDocument extended text t × (raw ≡ raw_of t text)) (raw ≡ text)

-- new is old with them at its end
pub record AppendsRaw (text old new : List ℕ) : Type 0 where
  pub raw : List ℕ
  pub is_raw : IsRaw text raw
  pub appended : new ≡ old ++ raw

-- Such a buffer has no space for the characters of a string, of which this is the serialized form, or for what has no
-- quotes.
pub record LacksSpaceForRaw (text : List ℕ) (capacity len : ℕ) : Type 0 where
  pub raw : List ℕ
  pub is_raw : IsRaw text raw
  pub too_short : capacity < len + length raw

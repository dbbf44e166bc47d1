-- What each status and each out parameter says of a sort key and its parts.
use Rattle.std.specs.Prelude.{◌≡◌, ◌≢◌, ◌⊎◌, ℕ, ◌+◌, ◌<◌, ◌≤◌, List, ◌++◌, length, drop, Option, Some, None}
use Rattle.jsonb_spec.specs.SortKey.Readable.{IsReadable}
use Rattle.jsonb_spec.specs.SortKey.Found.{IsRange}
use Rattle.jsonb_spec.specs.SortKey.Open.{Open, items, members}
use Rattle.jsonb_spec.specs.SortKey.{key_of}
use Rattle.jsonb_spec.specs.Tree.{Tree, string}

-- The bytes are the sort key of the tree of a value of JSON's kinds, with at most 512 arrays and objects nested.
pub record IsTreeKey (key : List ℕ) (t : Tree) : Type 0 where
  pub readable : IsReadable t
  pub is_key : key ≡ key_of t

-- The status and the number of parts of a value that has so many, or has none.
abbrev pub IsCounted : Option ℕ → ℕ → ℕ → Type 0
IsCounted (Some parts) status count = (status ≡ 0) × (count ≡ parts)
IsCounted None status count = status ≡ 5

-- The status says that the part is there in the key, or that there is none.
abbrev pub IsFound : List ℕ → Option Tree → ℕ → ℕ → ℕ → Type 0
IsFound key (Some part) status offset size = (status ≡ 0) × IsRange key offset size (key_of part)
IsFound key None status offset size = status ≡ 5

-- one of the statuses of a look into a key
abbrev pub IsPartStatus : ℕ → Type 0
IsPartStatus status = (status ≡ 0) ⊎ (status ≡ 5) ⊎ (status ≡ 7)

-- Of any bytes the range lies within them, and it is empty where nothing is found.
pub record IsWithinKey (key : List ℕ) (status offset size : ℕ) : Type 0 where
  pub inside : offset + size ≤ length key
  pub no_range : status ≢ 0 → (offset ≡ 0) × (size ≡ 0)

-- The range is that of the part that is asked for, and there is none where the value has none. Of any bytes the range
-- lies within them, and it is empty where nothing is found.
pub record FindsRange (key : List ℕ) (part_of : Tree → Option Tree) (status offset size : ℕ) : Type 0 where
  pub known : IsPartStatus status
  pub found : (t : Tree) → IsTreeKey key t → IsFound key (part_of t) status offset size
  pub within : IsWithinKey key status offset size

-- ---- one part after the other

-- the number of the kind of which this is left
abbrev pub open_number : Open → ℕ
open_number (items ts) = 5
open_number (members ms) = 6

-- ---- texts

-- the text of a string
abbrev pub text_of_tree : Tree → Option (List ℕ)
text_of_tree (string mark text) = Some text
text_of_tree t = None

-- The text is at the front of the buffer, or the buffer is shorter, which the status says; or there is no text.
abbrev pub IsWritten : Option (List ℕ) → ℕ → ℕ → List ℕ → List ℕ → Type 0
IsWritten (Some text) status size old new =
    (size ≡ length text)
    × (((status ≡ 0) × (new ≡ text ++ drop (length text) old)) ⊎ ((status ≡ 4) × (length old < size)))
IsWritten None status size old new = status ≡ 5

-- The text whose key this is is at the front of the buffer, or the buffer is shorter, which the status says. Of any
-- bytes the status is one of three; where nothing is written the buffer is as before, and where no text is known the
-- size is 0.
pub record WritesText (IsKeyOf : List ℕ → Type 0) (status size : ℕ) (old new : List ℕ) : Type 0 where
  pub known : (status ≡ 0) ⊎ (status ≡ 4) ⊎ (status ≡ 7)
  pub written : (text : List ℕ) → IsKeyOf text → IsWritten (Some text) status size old new
  pub untouched : status ≢ 0 → new ≡ old
  pub no_size : status ≢ 0 → status ≢ 4 → size ≡ 0

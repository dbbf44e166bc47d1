-- What the statuses of `vizhoniku_key_text` say of a sort key.
use Rattle.std.specs.Prelude.{◌≡◌, ℕ, List, Some}
use Rattle.jsonb_spec.specs.SortKey.{key_of}
use Rattle.jsonb_spec.specs.Text.{text_of}
use Rattle.jsonb_spec.specs.Tree.{Tree}
use Rattle.jsonb_spec.specs.Interface.KeyParts.{IsTreeKey}
use Rattle.jsonb_spec.specs.SortKey.Checked.{IsSortKey}
use Rattle.jsonb_spec.specs.SortKey.FewestDigits.{with_fewest_digits, IsDocumentWithKey}

-- Whichever value the bytes are the sort key of, the text is that of the value with the fewest digits that has this
-- key. Where the value is in range, it is an extended document of a value with this key.
pub record IsTextOfKey (key text : List ℕ) : Type 0 where
  pub written : (t : Tree) → IsTreeKey key t
      → (text_of (with_fewest_digits t) ≡ Some text) × (key_of (with_fewest_digits t) ≡ key)
  pub document : IsSortKey key → IsDocumentWithKey key text

-- The bytes are the sort key of no value.
abbrev pub IsNoKey : List ℕ → Type 0
IsNoKey key = (t : Tree) → IsTreeKey key t → ⊥

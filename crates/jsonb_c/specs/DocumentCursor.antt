-- What the statuses say of the parts of a document, one after the other, and what is in a cursor over them.
use Rattle.std.specs.Prelude.{◌≡◌, ℕ, List, drop, Option, Some, None}
use Rattle.jsonb_spec.specs.SortKey.{key_of}
use Rattle.jsonb_spec.specs.Tree.{Tree}
use Rattle.jsonb_spec.specs.SortKey.Open.{Open}
use Rattle.key_document.specs.Cursor.{IsLeftBehind}
use Rattle.key_document.specs.declared.cursor.ZerosLeft.{ZerosLeft}
use Rattle.jsonb_spec.specs.Interface.Document.{IsDocumentAnswer}
use Rattle.jsonb_c.specs.KeyParts.{IsNextPart, OccursBefore}
use Rattle.jsonb_c.specs.declared.document_cursor.DocumentCursor.{DocumentCursor}
use Rattle.jsonb_c.specs.declared.key.Entry.{Entry}
use Rattle.jsonb_spec.specs.Document.Counts.{counts_at, counts_open}
use Rattle.jsonb_spec.specs.Interface.DocumentCursor.{first_part, behind_first}

-- what the cursor says is left of the zeros
abbrev pub zeros_left : DocumentCursor → ZerosLeft
zeros_left cursor = record {
  passed = cursor.parts.offset;
  before = cursor.before;
  count = cursor.count;
  entries = cursor.entries;
}

-- The cursor is in the value's document where this is left of an array or an object: in its key, in the counts of the
-- key's bytes, and in its zeros.
pub record IsBefore (t : Tree) (left : Open) (cursor : DocumentCursor) : Type 0 where
  pub parts : OccursBefore (key_of t) cursor.parts left
  pub counts : drop cursor.parts.offset (counts_at t) ≡ counts_open left
  pub zeros : IsLeftBehind t (zeros_left cursor)

-- The status says that the cursor is before all these parts of the value, or that it has none.
abbrev pub IsBegunBefore : Tree → Option Open → ℕ → DocumentCursor → Type 0
IsBegunBefore t (Some left) status cursor = (status ≡ 0) × IsBefore t left cursor
IsBegunBefore t None status cursor = status ≡ 5

-- The document of the first part that is left is written, or the status says why it isn't. Where it is written, the
-- ranges of the part are reported, and the cursor is behind it.
pub record WritesNext (t : Tree) (left : Open) (status size : ℕ) (entry : Entry) (old new : List ℕ)
    (cursor : DocumentCursor) : Type 0 where
  pub written : IsDocumentAnswer (first_part left) status size old new
  pub ranges : status ≡ 0 → IsNextPart (key_of t) left 0 entry cursor.parts
  pub behind : status ≡ 0 → IsBefore t (behind_first left) cursor

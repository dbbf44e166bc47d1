-- What the statuses say of a part that is inserted into a document.
use Rattle.std.specs.Prelude.{◌≡◌, ℕ, List, Option, Some, None}
use Rattle.jsonb_spec.specs.Tree.{Tree}
use Rattle.jsonb_spec.specs.Interface.Document.{IsDocumentAnswer}

-- The answer's document is at the front of the buffer, or the status says why it isn't. Where there is no answer it
-- says whether that is since a member is there, so that there is a value without it.
abbrev pub IsInsertionAnswer : Option Tree → Option Tree → ℕ → ℕ → List ℕ → List ℕ → Type 0
IsInsertionAnswer (Some t) other status size old new = IsDocumentAnswer (Some t) status size old new
IsInsertionAnswer None (Some without) status size old new = status ≡ 11
IsInsertionAnswer None None status size old new = status ≡ 5

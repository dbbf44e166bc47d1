-- What is left of a document's zeros behind the first bytes of its key, and the document of the part that comes next.
use Rattle.std.specs.Prelude.{◌≡◌, ◌⊎◌, ℕ, ◌≤◌, ◌+◌, IfOk, List, length, drop, get_or, replicate, Result, Ok, Err}
use Rattle.jsonb_spec.specs.SortKey.{key_of}
use Rattle.jsonb_spec.specs.Tree.{Tree}
use Rattle.jsonb_spec.specs.Document.PartAt.{OfPartAt}
use Rattle.jsonb_spec.specs.Document.{zeros_at, OfDocument}
use Rattle.key_document.specs.declared.cursor.ZerosLeft.{ZerosLeft}
use Rattle.key_document.specs.declared.error.DocumentError.{DocumentError}
use Rattle.jsonb_spec.specs.Document.Numbers.{PendsAt}
use Rattle.jsonb_spec.specs.Document.Counts.{counts_at}

-- The first of these counts above 0 is the one that is left, and the entries behind it begin at the offset in the zeros;
-- or the counts are all 0.
abbrev pub IsLeftOf : List ℕ → List ℕ → ZerosLeft → Type 0
IsLeftOf counts zeros left = ((left.count ≡ 0) × (counts ≡ replicate (length counts) 0))
    ⊎ PendsAt counts left.before left.count (drop left.entries zeros)

-- This is left of the value's zeros behind so many bytes of its key as are passed.
pub record IsLeftBehind (t : Tree) (left : ZerosLeft) : Type 0 where
  pub within : left.passed ≤ length (key_of t)
  pub rest : IsLeftOf (drop left.passed (counts_at t)) (zeros_at t) left

-- This is left of the value's zeros behind the first bytes of its key, which are so many.
abbrev pub IsLeftAt : Tree → ℕ → ZerosLeft → Type 0
IsLeftAt t offset left = (left.passed ≡ offset) × IsLeftBehind t left

-- Whichever value the document is of, and whichever part of it has this range in its key, this is so of both, where the
-- part isn't before what is left.
abbrev pub OfNextPart : List ℕ → ZerosLeft → ℕ → ℕ → (Tree → Tree → Type 0) → Type 0
OfNextPart document left offset size Is =
    OfDocument document (λ t. IsLeftBehind t left → left.passed ≤ offset → OfPartAt t offset size (Is t))

-- It is reported what is left behind the part, which ends at this offset.
abbrev pub ReportsLeft : Tree → ℕ → Result ZerosLeft DocumentError → Type 0
ReportsLeft t end result = IfOk result (IsLeftAt t end)

-- The count of the byte at this offset is reported, and this is left behind no more bytes than up to that.
abbrev pub ReportsZeros : Tree → ℕ → Result ℕ DocumentError → ZerosLeft → Type 0
ReportsZeros t offset (Ok count) left =
    (count ≡ get_or (drop offset (counts_at t)) 0 0) × IsLeftBehind t left × (left.passed ≤ offset + 1)
ReportsZeros t offset (Err e) left = ⊥

-- What is known of a document's zeros that are left while its key is walked.
use Rattle.std.specs.Prelude.{◌≡◌, ◌⊎◌, ◌<◌, ◌^◌, ℕ, suc, List, length}
use Rattle.key_document.specs.declared.due.ZerosDue.{ZerosDue}
use Rattle.jsonb_spec.specs.Document.Counts.{AreZeros}
use Rattle.jsonb_spec.specs.Document.Numbers.{PendsAt}

-- Where so many bytes are left is the first of these counts above 0, and the entries are the zeros of those behind it.
pub record IsDueAmong (due : ZerosDue) (counts : List ℕ) : Type 0 where
  pub before : ℕ
  pub pending : PendsAt counts before due.count due.entries.now
  pub left : due.at ≡ suc (length pending.later)

-- These are the counts of the bytes that are left: zeros are due among them, or none are.
pub record AreDue (due : ZerosDue) (counts : List ℕ) : Type 0 where
  pub short : length counts < 2 ^ 63
  pub next : ((due.at ≡ 0) × AreZeros counts) ⊎ IsDueAmong due counts

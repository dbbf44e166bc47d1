-- What the statuses say of a document: a part of it, and what a change makes of it.
use Rattle.std.specs.Prelude.{◌≡◌, ◌⊎◌, ℕ, List, Option, Some, None}
use Rattle.jsonb_spec.specs.Grammar.{max_depth}
use Rattle.jsonb_spec.specs.SortKey.Readable.{IsAnyNumber, IsReadable}
use Rattle.jsonb_spec.specs.Text.Range.{IsWithin}
use Rattle.jsonb_spec.specs.Tree.{Tree}
use Rattle.jsonb_spec.specs.Interface.{IsDocumentOf}
use Rattle.jsonb_spec.specs.Interface.KeyParts.{IsWritten}
use Rattle.jsonb_spec.specs.Document.{document_of}

-- The bytes are the document of the tree of a value of JSON's kinds, with at most 512 arrays and objects nested.
pub record IsTreeDocument (document : List ℕ) (t : Tree) : Type 0 where
  pub readable : IsReadable t
  pub is_document : document ≡ document_of t

-- The bytes are the document of the tree of the text.
pub record IsDocumentOfText (number : ℕ) (text bytes : List ℕ) : Type 0 where
  pub tree : Tree
  pub read : IsDocumentOf number text tree
  pub is_document : bytes ≡ document_of tree

-- The answer's document is at the front of the buffer, or the buffer is shorter, which the status says, and so it does
-- where the answer has more than 512 arrays and objects in one another, or where there is none.
abbrev pub IsDocumentAnswer : Option Tree → ℕ → ℕ → List ℕ → List ℕ → Type 0
IsDocumentAnswer (Some t) status size old new =
    (IsWithin IsAnyNumber t max_depth × IsWritten (Some (document_of t)) status size old new)
    ⊎ ((status ≡ 8) × (IsWithin IsAnyNumber t max_depth → ⊥))
IsDocumentAnswer None status size old new = status ≡ 5

-- one of the statuses of a part or a change of a document
abbrev pub IsDocumentStatus : ℕ → Type 0
IsDocumentStatus status =
    (status ≡ 0) ⊎ (status ≡ 2) ⊎ (status ≡ 4) ⊎ (status ≡ 5) ⊎ (status ≡ 8) ⊎ (status ≡ 10)

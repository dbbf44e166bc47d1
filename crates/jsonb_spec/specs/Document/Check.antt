-- Which bytes are a document of a value in range.
use Rattle.std.specs.Prelude.{◌≡◌, ℕ, List}
use Rattle.jsonb_spec.specs.Proper.{IsProper}
use Rattle.jsonb_spec.specs.Text.Range.{IsInRange}
use Rattle.jsonb_spec.specs.Tree.{Tree}
use Rattle.jsonb_spec.specs.Document.{document_of}

-- The bytes are the document of a value in range: one that a text of extended mode can have.
pub record IsDocumentInRange (bytes : List ℕ) : Type 0 where
  pub value : Tree
  pub proper : IsProper value
  pub in_range : IsInRange value
  pub is_document : bytes ≡ document_of value

-- The tree of a document is proper, so that its sort key compares as it does.
use Rattle.std.proofs.Common.{ℕ, List}
use Rattle.jsonb_spec.specs.Grammar.{IsDocument}
use Rattle.jsonb_spec.specs.Mode.{Mode}
use Rattle.jsonb_spec.specs.Proper.{IsProper}
use Rattle.jsonb_spec.specs.Tree.{Tree}
use Rattle.jsonb_core.proofs.Trees.RangeTexts.{document_in_range}

pub document_proper : (mode : Mode) (bytes : List ℕ) (t : Tree) → IsDocument mode bytes t → IsProper t
document_proper mode bytes t d = (document_in_range mode bytes t d).1

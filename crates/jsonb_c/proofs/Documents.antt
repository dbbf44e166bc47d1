-- The document of a text's tree.
use Rattle.std.proofs.Common.{◌≡◌, ℕ, List, sym, ap, ◌∙◌}
use Rattle.key_value.proofs.Texts.{some_same}
use Rattle.jsonb_spec.specs.SortKey.Readable.{IsAnyNumber, IsReadable}
use Rattle.jsonb_spec.specs.Grammar.{max_depth, IsDocument}
use Rattle.jsonb_spec.specs.Mode.{Mode, standard, extended, json, extended_json}
use Rattle.jsonb_spec.specs.SortKey.{key_of}
use Rattle.jsonb_spec.specs.Text.{tree_text}
use Rattle.jsonb_spec.specs.Text.Range.{HasFewDigits, IsIntegral}
use Rattle.jsonb_spec.specs.Tree.{Tree}
use Rattle.jsonb_core.proofs.Trees.RangeTexts.{document_in_range, text_in_range}
use Rattle.jsonb_core.proofs.Trees.Ranges.{widened}
use Rattle.jsonb_spec.specs.Interface.{IsTextOf}

pub document_readable : (mode : Mode) (bytes : List ℕ) (t : Tree) → IsDocument mode bytes t → IsReadable t
document_readable standard bytes t d = let x = document_in_range standard bytes t d in record { proper = x.1; within = widened IsIntegral IsAnyNumber (λ n p w. tt) t max_depth x.1 x.0 }
document_readable extended bytes t d = let x = document_in_range extended bytes t d in record { proper = x.1; within = widened HasFewDigits IsAnyNumber (λ n p w. tt) t max_depth x.1 x.0 }
document_readable json bytes t d = let x = document_in_range json bytes t d in record { proper = x.1; within = widened HasFewDigits IsAnyNumber (λ n p w. tt) t max_depth x.1 x.0 }
document_readable extended_json bytes t d = let x = document_in_range extended_json bytes t d in record { proper = x.1; within = widened HasFewDigits IsAnyNumber (λ n p w. tt) t max_depth x.1 x.0 }

-- the text is that of a tree that is decoded from its key
pub text_of_tree : (number : ℕ) (text form : List ℕ) (x : IsTextOf number text form) → IsReadable x.tree × (form ≡ tree_text x.tree)
text_of_tree number text form x =
    let r = document_readable x.read.mode text x.tree x.read.document in
    (r, some_same form (tree_text x.tree) (sym x.is_text ∙ text_in_range IsAnyNumber x.tree r.within))

-- What is written for an input is written again for what was written.
use Rattle.std.proofs.Common.{◌≡◌, ◌↔◌, ℕ, List, [], ◌∷◌, ◌++◌, Some, sym, subst, ap, ◌∙◌}
use Rattle.std.proofs.lemmas.List.{append_cancel_left, append_cancel_right}
use Rattle.jsonb_spec.specs.Mode.{Mode}
use Rattle.jsonb_spec.specs.Text.ReadsBack.{ReadsBackAs}
use Rattle.jsonb_spec.specs.Text.{text_of}
use Rattle.jsonb_spec.specs.Tree.{Tree}
use Rattle.jsonb_core.proofs.Trees.RangeTexts.{document_text_reads_back}
use Rattle.jsonb.proofs.Documents.Encodings.{document_unique}
use Rattle.jsonb_spec.specs.Program.{IsLineOf}

same_text : (t u : Tree) (xs ys : List ℕ) → t ≡ u → text_of t ≡ Some xs → text_of u ≡ Some ys → xs ≡ ys
same_text t u xs ys e p q = let both : Some xs ≡ Some ys = sym p ∙ ap text_of e ∙ q in cc

pub line_again : (mode : Mode) (input text : List ℕ) → IsLineOf mode input (text ++ 10 ∷ []) → (line : List ℕ) → IsLineOf mode text line ↔ (line ≡ text ++ 10 ∷ [])
line_again mode input text first line =
    let same : first.text ≡ text = append_cancel_right first.text text (10 ∷ []) (sym first.ended) in
    let back : ReadsBackAs mode text first.tree = document_text_reads_back mode input first.tree first.document text (first.is_text ∙ ap Some same) in (
      λ second. second.ended ∙ ap (λ bytes. bytes ++ 10 ∷ []) (same_text second.tree back.tree second.text text (document_unique mode text second.tree back.tree second.document back.document) second.is_text back.text),
      λ ended. record { tree = back.tree; document = back.document; text = text; is_text = back.text; ended = ended },
    )

-- the same of a line that was appended
pub appended_again : (mode : Mode) (input old new line : List ℕ) → IsLineOf mode input line → new ≡ old ++ line → (text : List ℕ) → new ≡ old ++ (text ++ 10 ∷ []) → (other : List ℕ) → IsLineOf mode text other ↔ (other ≡ text ++ 10 ∷ [])
appended_again mode input old new line is appended text ended other =
    line_again mode input text (subst (IsLineOf mode input) (append_cancel_left old line (text ++ 10 ∷ []) (sym appended ∙ ended)) is) other

-- The text of a document's part, and that a document has none at a path.
use Rattle.std.proofs.Common.{◌≡◌, ◌⊎◌, inl, inr, ℕ, ◌^◌, ◌<◌, true, false, List, [], ◌++◌, length, Some, None, ap, sym, ◌∙◌, arith}
use Rattle.jsonb_spec.specs.Grammar.{IsDocument}
use Rattle.jsonb_spec.specs.Mode.{Mode}
use Rattle.jsonb_spec.specs.Text.{text_of}
use Rattle.jsonb_spec.specs.Text.ReadsBack.{ReadsBackAs}
use Rattle.jsonb_spec.specs.Tree.{Tree}
use Rattle.jsonb_spec.specs.Parsing.Appends.{AppendsPartOf, IsParsed, LacksCapacityForPart}
use Rattle.jsonb_spec.specs.Parsing.Memory.{MayAllocate}
use Rattle.jsonb_spec.specs.PartAt.{IsAt}
use Rattle.jsonb_c.proofs.ArraySizes.{document_below}
use Rattle.jsonb_c.proofs.PartsAt.{part_found, part_there}
use Rattle.jsonb_path.proofs.PartsReadBack.{part_reads_back}

-- What is known of the text of a part that was appended to nothing.
pub record IsTextThere (mode : Mode) (document : List ℕ) (keys : List (List ℕ)) (bytes : List ℕ) : Type 0 where
  pub tree : Tree
  pub parsed : IsParsed mode document tree
  pub part : Tree
  pub at : IsAt tree keys part
  pub is_text : text_of part ≡ Some bytes
  pub reads_back : ReadsBackAs mode bytes part

pub text_there : (mode : Mode) (document : List ℕ) (keys : List (List ℕ)) (old bytes : List ℕ) → old ≡ [] → AppendsPartOf mode document keys old bytes true → IsTextThere mode document keys bytes
text_there mode document keys old bytes none appends =
    let written = appends.part.appended in
    let at = part_there keys appends.tree appends.part.part appends.part.there in
    let all : bytes ≡ written.bytes = written.appended ∙ ap (λ xs. xs ++ written.bytes) none in
    let text : text_of appends.part.part ≡ Some bytes = written.is_text ∙ ap Some (sym all) in
    record {
      tree = appends.tree;
      parsed = appends.parsed;
      part = appends.part.part;
      at = at;
      is_text = text;
      reads_back = part_reads_back mode document appends.tree appends.parsed.document keys appends.part.part at bytes text;
    }

-- Nothing is at these keys of a document.
pub record IsNothingThere (mode : Mode) (document : List ℕ) (keys : List (List ℕ)) : Type 0 where
  pub tree : Tree
  pub parsed : IsParsed mode document tree
  pub none : (part : Tree) → IsAt tree keys part → ⊥

pub nothing_there : (mode : Mode) (document : List ℕ) (keys : List (List ℕ)) (old new : List ℕ) → length document < 2 ^ 64 → AppendsPartOf mode document keys old new false → IsNothingThere mode document keys
nothing_there mode document keys old new small appends = record {
  tree = appends.tree;
  parsed = appends.parsed;
  none = λ part at. no_part part (sym appends.part.0 ∙ part_found (length document) small keys appends.tree part (document_below (length document) mode document appends.tree appends.parsed.document (omega arith)) at);
}
  where
    no_part : (t : Tree) → None ≡ Some t → ⊥
    no_part t e = cc

-- Memory runs out where the document may take some, or where there is one.
pub document_needs : {mode : Mode} {document : List ℕ} {keys : List (List ℕ)} {capacity len : ℕ} → MayAllocate document ⊎ LacksCapacityForPart mode document keys capacity len → MayAllocate document ⊎ ((tree : Tree) × IsDocument mode document tree)
document_needs (inl may) = inl may
document_needs (inr lacks) = inr (lacks.tree, lacks.document)

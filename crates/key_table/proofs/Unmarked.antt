-- No document ends with the byte with which tables do.
use Rattle.std.proofs.Common.{inl, inr, refl, sym, ◌∙◌, arith}
use Rattle.std.proofs.lemmas.List.{same_from_push}
use Rattle.jsonb_spec.specs.SortKey.Readable.{IsReadable}
use Rattle.jsonb_spec.specs.Grammar.{max_depth}
use Rattle.jsonb_spec.specs.SortKey.{key_of}
use Rattle.jsonb_spec.specs.Tree.{Tree}
use Rattle.jsonb_spec.specs.Document.{document_of, zeros_at}
use Rattle.key_document.proofs.Endings.{ends_below}
use Rattle.key_document.proofs.Tails.{but_last, tail_cases}
use Rattle.jsonb_spec.specs.Table.{table_mark, IsUnmarked}

pub unmarked : (t : Tree) → IsReadable t → IsUnmarked (document_of t)
unmarked t r front marked = elim (tail_cases (key_of t) (zeros_at t) (document_of t) refl) [
  | inl none ↦
      let x = ends_below t max_depth r.proper r.within in
      let same = (same_from_push x.front front x.last table_mark (sym x.is ∙ sym none.1 ∙ marked)).1 in
      absurd (omega (arith, same, x.below))
  | inr some ↦
      let same = (same_from_push (but_last (key_of t) (zeros_at t)) front 255 table_mark (sym some ∙ marked)).1 in
      absurd (omega (arith, same))
]

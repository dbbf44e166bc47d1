use Rattle.std.proofs.Common.{◌∙◌}
use Rattle.std.specs.Cmp.Lexicographic.{slice_cmp}
use Rattle.std.specs.Ordering.{nat_cmp}
use Rattle.jsonb_core.proofs.SortKeys.Trees.{keys_order}
use Rattle.key_document.proofs.order.compare_documents.Goals as goal

pub returns : goal.returns
returns c = record {
  order = λ t r e u ru eu.
      c.cmp.ensures ∙ (λ i. slice_cmp nat_cmp (c.split_document.ensures.key t r e i) (c.split_document-2.ensures.key u ru eu i)) ∙ keys_order t u r.proper ru.proper;
}

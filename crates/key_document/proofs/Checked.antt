-- Whole documents that are checked.
use Rattle.std.proofs.Common.{◌≡◌, ◌↔◌, IsTrue, false, true≢false, List, ℕ, ◌++◌, sym, ap, ap₂, ◌∙◌}
use Rattle.jsonb_spec.specs.Grammar.{max_depth}
use Rattle.jsonb_spec.specs.SortKey.{key_of}
use Rattle.jsonb_spec.specs.Tree.{Tree}
use Rattle.jsonb_spec.specs.Document.Check.{IsDocumentInRange}
use Rattle.key_document.specs.Check.{ZerosFit, most_at}
use Rattle.jsonb_spec.specs.Document.{OfDocument, behind_key, zeros_at}
use Rattle.key_document.proofs.Trailing.{ending, own_counts}
use Rattle.jsonb_spec.specs.SortKey.Readable.{IsReadable}
use Rattle.jsonb_spec.specs.SortKey.Checked.{IsSortKey}
use Rattle.key_walk.proofs.InRange.{readable_at}
use Rattle.jsonb_spec.specs.Document.Zeros.{zeros_of}
use Rattle.jsonb_spec.specs.Document.Counts.{counts_at}

-- what isn't so is rejected
pub refused : {P : Type 0} → (P → ⊥) → IsTrue false ↔ P
refused other = (λ t. absurd (true≢false (sym t)), λ p. absurd (other p))

module _ (document key zeros : List ℕ) where
  -- where all is found there is a value
  pub found : document ≡ key ++ behind_key zeros → IsSortKey key → ((t : Tree) → IsReadable t → key ≡ key_of t → ZerosFit (most_at t) zeros) → IsDocumentInRange document
  found whole k fit =
      let z = fit k.value (readable_at max_depth k.value (record { proper = k.proper; within = k.in_range })) k.is_key in
      let x = ending k.value max_depth z.counts k.proper k.in_range z.at_most in
      record {
        value = x.value;
        proper = x.proper;
        in_range = x.within;
        is_document = whole ∙ ap₂ (λ l r. l ++ behind_key r) (k.is_key ∙ sym x.has_key) (z.are ∙ ap (zeros_of 0) (sym x.has));
      }

  -- of a document all is found
  module _ (d : IsDocumentInRange document) (finds_key : OfDocument document (λ t. key ≡ key_of t)) (finds_zeros : OfDocument document (λ t. zeros ≡ zeros_at t)) where
    pub readable : IsReadable d.value
    readable = readable_at max_depth d.value (record { proper = d.proper; within = d.in_range })

    pub key_is : IsSortKey key
    key_is = record { value = d.value; proper = d.proper; in_range = d.in_range; is_key = finds_key d.value readable d.is_document }

    pub fits_there : ZerosFit (most_at d.value) zeros
    fits_there = record { counts = counts_at d.value; at_most = own_counts d.value max_depth d.in_range; are = finds_zeros d.value readable d.is_document }

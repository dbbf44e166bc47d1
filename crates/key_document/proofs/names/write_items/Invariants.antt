use Rattle.std.proofs.Common.{◌≡◌, length}
use Rattle.jsonb_spec.specs.SortKey.{items_key, members_key}
use Rattle.jsonb_spec.specs.Tree.{Members, Trees}
use Rattle.jsonb_spec.specs.SortKey.Checked.{AreReadable, HaveReadable}
use Rattle.jsonb_spec.specs.Document.Counts.{counts_at_items}
use Rattle.jsonb_spec.specs.SortKey.Text.{Preserves}
use Rattle.key_document.specs.Retaining.{IsBegun}
use Rattle.key_document.proofs.NamesLeft.{ItemsLeft}
use Rattle.key_document.proofs.names.write_items.Given as goal

abbrev pub invariant-items : goal.invariant-items
invariant-items l = record {
  left : (ts : Trees) → AreReadable ts → (ns : Members) → HaveReadable ns → l.key ≡ items_key ts → l.names ≡ members_key ns → IsBegun 210 l.begun l.key (counts_at_items ts)
      → ItemsLeft l.begun.output ts ns l.retaining l.items l.fn.out.items l.out.items;
  preserves : Preserves l.fn.out l.out;
}

abbrev pub decreases-items : goal.decreases-items
decreases-items l = length l.items

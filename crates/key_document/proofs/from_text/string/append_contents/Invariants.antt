use Rattle.std.proofs.Common.{length}
use Rattle.jsonb_spec.specs.SortKey.Text.{Preserves}
use Rattle.key_document.proofs.Items.{WritesOn}
use Rattle.key_document.proofs.from_text.string.append_contents.Given as goal

abbrev pub invariant-items : goal.invariant-items
invariant-items l = record {
  writes : WritesOn l.bytes l.rest l.fn.out.items l.out.items;
  preserves : Preserves l.fn.out l.out;
}

abbrev pub decreases-items : goal.decreases-items
decreases-items l = length l.rest

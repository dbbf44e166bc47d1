use Rattle.std.proofs.Common.{◌≡◌, ◌+◌, length}
use Rattle.jsonb_spec.specs.SortKey.{members_key}
use Rattle.jsonb_spec.specs.Tree.{Members}
use Rattle.jsonb_spec.specs.SortKey.Checked.{HaveReadable}
use Rattle.jsonb_spec.specs.Document.Counts.{counts_at_members}
use Rattle.jsonb_spec.specs.SortKey.Text.{Preserves}
use Rattle.key_document.specs.Retaining.{IsBegun}
use Rattle.key_document.proofs.NamesLeft.{MembersLeft}
use Rattle.key_document.proofs.names.write_members.Given as goal

abbrev pub invariant-members : goal.invariant-members
invariant-members l = record {
  left : (ms ns : Members) → HaveReadable ms → HaveReadable ns → l.key ≡ members_key ms → l.names ≡ members_key ns → IsBegun 209 l.begun l.key (counts_at_members ms)
      → MembersLeft l.begun.output ms ns l.retaining l.members l.others l.fn.out.items l.out.items;
  preserves : Preserves l.fn.out l.out;
}

abbrev pub decreases-members : goal.decreases-members
decreases-members l = length l.members + length l.others

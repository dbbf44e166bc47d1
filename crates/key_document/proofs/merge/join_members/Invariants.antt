use Rattle.std.proofs.Common.{◌≡◌, ◌+◌, ◌<◌, ◌^◌, length}
use Rattle.jsonb_spec.specs.SortKey.{members_key}
use Rattle.jsonb_spec.specs.Tree.{Members, object}
use Rattle.jsonb_spec.specs.SortKey.Checked.{HaveReadable}
use Rattle.jsonb_spec.specs.Document.{zeros_at}
use Rattle.key_document.proofs.MembersJoined.{JoinLeft}
use Rattle.key_document.proofs.merge.join_members.Given as goal
use Rattle.jsonb_spec.specs.Edit.{merged_members}
use Rattle.jsonb_spec.specs.Document.Counts.{counts_at_members}
use Rattle.jsonb_spec.specs.SortKey.Text.{Preserves}

abbrev pub invariant-members : goal.invariant-members
invariant-members l = record {
  joining : (ms ns : Members) → HaveReadable ms → HaveReadable ns → l.left ≡ members_key ms → l.right ≡ members_key ns → l.zeros ≡ zeros_at (object ms) → l.other_zeros ≡ zeros_at (object ns)
      → 1 + length l.left < 2 ^ 63 → 1 + length l.right < 2 ^ 63
      → 1 + length (counts_at_members (merged_members ms ns)) < 2 ^ 63 → JoinLeft ms ns l.fn.out.items l.out.items l.merging.plain l.merging.ours l.merging.theirs l.members l.others;
  preserves : Preserves l.fn.out l.out;
}

abbrev pub decreases-members : goal.decreases-members
decreases-members l = length l.members + length l.others

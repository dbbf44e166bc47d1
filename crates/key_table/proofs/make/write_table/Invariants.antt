use Rattle.std.proofs.Common.{◌+◌, ◌≤◌, length}
use Rattle.jsonb_spec.specs.SortKey.Text.{Preserves}
use Rattle.key_table.proofs.Writing.{Writing}
use Rattle.key_table.proofs.make.write_table.Given as goal

abbrev pub invariant-members : goal.invariant-members
invariant-members l = record { writes : Writing l.members l.fn.out.items l.out.items l.left l.count; within : l.count + length l.left ≤ length l.members; preserves : Preserves l.fn.out l.out }

abbrev pub decreases-members : goal.decreases-members
decreases-members l = length l.left

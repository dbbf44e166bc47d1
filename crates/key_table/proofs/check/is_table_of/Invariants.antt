use Rattle.std.proofs.Common.{◌+◌, ◌≤◌, length}
use Rattle.key_table.proofs.Splitting.{Matching}
use Rattle.key_table.proofs.check.is_table_of.Given as goal

abbrev pub invariant-members : goal.invariant-members
invariant-members l = record { matches : Matching l.members l.table l.entries l.left l.count; within : l.count + length l.left ≤ length l.members }

abbrev pub decreases-members : goal.decreases-members
decreases-members l = length l.left

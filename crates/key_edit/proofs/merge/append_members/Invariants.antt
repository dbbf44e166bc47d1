use Rattle.std.proofs.Common.{◌+◌, ◌≤◌, length}
use Rattle.std.specs.Vec.{vec_capacity}
use Rattle.jsonb_spec.specs.Text.Appending.{Extends}
use Rattle.key_edit.proofs.Merged.{WalksBoth}
use Rattle.key_edit.proofs.merge.append_members.Given as goal

abbrev pub invariant-members : goal.invariant-members
invariant-members l = record {
  walks : WalksBoth l.left l.right l.fn.out.items l.out.items l.members l.others;
  retained : Extends l.fn.out.items l.out.items;
  capacity : vec_capacity l.fn.out ≤ vec_capacity l.out;
}

abbrev pub decreases-members : goal.decreases-members
decreases-members l = length l.members + length l.others

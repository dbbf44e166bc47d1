use Rattle.std.proofs.Common.{◌-◌, ◌≤◌, length}
use Rattle.jsonb_spec.specs.SortKey.Front.{AreNoZeros}
use Rattle.key_walk.proofs.ascii.run_by_vectors_before_zero.Given as goal

abbrev pub invariant-vectors : goal.invariant-vectors
invariant-vectors l = (l.len ≤ length l.bytes) × AreNoZeros l.bytes l.len

abbrev pub decreases-vectors : goal.decreases-vectors
decreases-vectors l = length l.bytes - l.len

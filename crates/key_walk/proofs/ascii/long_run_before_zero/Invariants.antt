use Rattle.std.proofs.Common.{◌-◌, ◌≤◌, length}
use Rattle.jsonb_spec.specs.SortKey.Front.{AreNoZeros}
use Rattle.key_walk.proofs.ascii.long_run_before_zero.Given as goal

abbrev pub invariant-wide : goal.invariant-wide
invariant-wide l = (l.len ≤ length l.bytes) × AreNoZeros l.bytes l.len

abbrev pub decreases-wide : goal.decreases-wide
decreases-wide l = length l.bytes - l.len

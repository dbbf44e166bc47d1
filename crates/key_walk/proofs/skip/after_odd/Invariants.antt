use Rattle.std.proofs.Common.{true, ◌≤◌, length}
use Rattle.key_walk.proofs.AfterDigits.{SkipsDigits}
use Rattle.key_walk.proofs.Fronts.{AreBytes}
use Rattle.key_walk.proofs.skip.after_odd.Given as goal

abbrev pub invariant-pairs : goal.invariant-pairs
invariant-pairs l = record { skips : SkipsDigits true l.bytes l.rest; within : length l.rest ≤ length l.bytes; are_bytes : AreBytes l.rest }

abbrev pub decreases-pairs : goal.decreases-pairs
decreases-pairs l = length l.rest

use Rattle.std.proofs.Common.{false, ◌≤◌, length}
use Rattle.key_walk.proofs.AfterDigits.{SkipsDigits}
use Rattle.key_walk.proofs.skip.after_even.Given as goal

abbrev pub invariant-pairs : goal.invariant-pairs
invariant-pairs l = record { skips : SkipsDigits false l.bytes l.rest; within : length l.rest ≤ length l.bytes }

abbrev pub decreases-pairs : goal.decreases-pairs
decreases-pairs l = length l.rest

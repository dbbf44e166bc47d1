use Rattle.std.proofs.Common.{ℕ, ◌≤◌, length}
use Rattle.key_walk.proofs.Occurrence.{CountsParts}
use Rattle.key_walk.proofs.skip.after_parts.Given as goal

abbrev pub invariant-scalars : goal.invariant-scalars
invariant-scalars l = record { passed : (n : ℕ) × CountsParts l.object l.bytes n l.rest; within : length l.rest ≤ length l.bytes }

abbrev pub decreases-scalars : goal.decreases-scalars
decreases-scalars l = length l.rest

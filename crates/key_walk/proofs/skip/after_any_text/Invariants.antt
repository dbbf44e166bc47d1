use Rattle.std.proofs.Common.{◌≤◌, length}
use Rattle.key_walk.proofs.AfterTexts.{SkipsText}
use Rattle.key_walk.proofs.skip.after_any_text.Given as goal

abbrev pub invariant-zeros : goal.invariant-zeros
invariant-zeros l = record { skips : SkipsText l.bytes l.rest; within : length l.rest ≤ length l.bytes }

abbrev pub decreases-zeros : goal.decreases-zeros
decreases-zeros l = length l.rest

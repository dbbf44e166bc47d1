use Rattle.std.proofs.Common.{◌≤◌, ◌↔◌, List, ℕ, length}
use Rattle.key_walk.specs.Frames.{TextFirst}
use Rattle.key_walk.proofs.check.checked_text.Given as goal

abbrev pub invariant-zeros : goal.invariant-zeros
invariant-zeros l = record {
  whole : (more : List ℕ) → TextFirst l.rest more ↔ TextFirst l.bytes more;
  within : length l.rest ≤ length l.bytes;
}

abbrev pub decreases-zeros : goal.decreases-zeros
decreases-zeros l = length l.rest

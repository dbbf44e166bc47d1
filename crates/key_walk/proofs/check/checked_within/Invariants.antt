use Rattle.std.proofs.Common.{◌≡◌, ◌≤◌, length}
use Rattle.key_walk.proofs.Stacked.{Left}
use Rattle.key_walk.proofs.check.checked_within.Given as goal

abbrev pub invariant-parts : goal.invariant-parts
invariant-parts l = record {
  parts : Left l.object l.bytes l.frames l.depth l.rest;
  deep : l.depth ≤ length l.frames;
  few : length l.frames ≤ 512;
  size : length l.frames ≡ length l.fn.frames;
}

abbrev pub decreases-parts : goal.decreases-parts
decreases-parts l = length l.rest

use Rattle.std.proofs.Common.{◌≡◌, ◌≤◌, ◌⊎◌, ◌<◌, length}
use Rattle.key_walk.proofs.Opens.{SkipsParts}
use Rattle.key_walk.proofs.skip.after_within.Given as goal

abbrev pub invariant-parts : goal.invariant-parts
invariant-parts l = record {
  skips : SkipsParts l.object l.bytes l.objects l.depth l.rest;
  within : length l.rest ≤ length l.bytes;
  shorter : (0 < l.depth) ⊎ (length l.rest < length l.bytes);
  deep : l.depth ≤ length l.objects;
  few : length l.objects ≤ 512;
  size : length l.objects ≡ length l.fn.objects;
}

abbrev pub decreases-parts : goal.decreases-parts
decreases-parts l = length l.rest

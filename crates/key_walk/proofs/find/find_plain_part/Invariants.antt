use Rattle.std.proofs.Common.{◌≤◌, length, IfOk, IfSome}
use Rattle.key_walk.proofs.PlainPaths.{PathSoFar}
use Rattle.key_walk.proofs.find.find_plain_part.Given as goal

abbrev pub invariant-names : goal.invariant-names
invariant-names l = record {
  so_far : PathSoFar l.path l.rest l.key l.found;
  within : IfOk l.found (λ answer. IfSome answer (λ rest. length rest.now ≤ length l.key));
}

abbrev pub decreases-names : goal.decreases-names
decreases-names l = length l.rest

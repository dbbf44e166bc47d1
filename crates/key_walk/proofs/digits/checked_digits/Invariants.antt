use Rattle.std.proofs.Common.{◌≡◌, ◌≤◌, ◌%◌, length}
use Rattle.key_walk.proofs.NumberEnds.{SomeRead}
use Rattle.key_walk.proofs.digits.checked_digits.Given as goal

abbrev pub invariant-pairs : goal.invariant-pairs
invariant-pairs l = record {
  read : SomeRead l.negative l.bytes l.count l.rest;
  few : l.count ≤ 36;
  even : l.count % 2 ≡ 0;
  within : length l.rest ≤ length l.bytes;
}

abbrev pub decreases-pairs : goal.decreases-pairs
decreases-pairs l = length l.rest

use Rattle.std.proofs.Common.{◌≤◌, ◌*◌, ◌++◌, false, ℕ, List, drop, length, replicate, ◌≡◌, ◌-◌}
use Rattle.key_text.proofs.Encoding.{Encodes}
use Rattle.key_text.proofs.number.encode_few.Given as goal

-- what was read is in the row, whatever follows the bytes
abbrev pub invariant-pairs : goal.invariant-pairs
invariant-pairs l = record {
  encodes : (tail : List ℕ) → Encodes false (l.bytes ++ tail) (2 * l.pairs) (drop l.pairs l.bytes ++ tail) (l.row ++ replicate 32 48);
  few : l.pairs ≤ 8;
  size : length l.row ≡ 16;
}

abbrev pub decreases-pairs : goal.decreases-pairs
decreases-pairs l = 8 - l.pairs

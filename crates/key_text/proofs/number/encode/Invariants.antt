use Rattle.std.proofs.Common.{◌≤◌, length}
use Rattle.key_text.proofs.Encoding.{Encodes}
use Rattle.key_text.proofs.number.encode.Given as goal

-- what was read is in the row
abbrev pub invariant-pairs : goal.invariant-pairs
invariant-pairs l = record {
  encodes : Encodes l.negative l.bytes l.count l.rest l.row;
  within : length l.rest ≤ length l.bytes;
  few : l.count ≤ 40;
}

abbrev pub decreases-pairs : goal.decreases-pairs
decreases-pairs l = length l.rest

use Rattle.std.proofs.Common.{◌≡◌, ◌+◌, ◌-◌, ◌*◌, ◌<◌, ◌≤◌, length}
use Rattle.jsonb_core.proofs.SortKeys.Pairs.{AreWritten}
use Rattle.jsonb_core.proofs.number.sort_key.write_digits.Given as goal

-- all digits but the pairs that are left are in the row
abbrev pub invariant-pairs : goal.invariant-pairs
invariant-pairs l = record {
  written : AreWritten l.fn.negative l.fn.magnitude (l.fn.count - 2 * l.left) l.start l.front l.more l.row;
  space : 2 + l.left ≤ l.start;
  within : l.start ≤ 11;
  digits : 2 * l.left < l.fn.count;
  long : length l.row ≡ 12;
}

abbrev pub decreases-pairs : goal.decreases-pairs
decreases-pairs l = l.left

use Rattle.std.proofs.Common.{◌-◌, ◌/◌, ◌≤◌, length}
use Rattle.key_walk.specs.Fronts.{IsNext}
use Rattle.key_table.proofs.Searching.{Searching}
use Rattle.key_table.proofs.search.find_by_table.Given as goal

abbrev pub invariant-halves : goal.invariant-halves
invariant-halves l = record {
  searches : Searching l.key l.table l.name l.low l.high;
  order : l.low ≤ l.high;
  within : l.high ≤ (length l.table - 3) / 2;
  next : IsNext l.name l.next;
}

abbrev pub decreases-halves : goal.decreases-halves
decreases-halves l = l.high - l.low

use Rattle.std.proofs.Common.{◌≡◌, ◌+◌, ◌-◌, ◌≤◌, length, take}
use Rattle.text_write.proofs.JsonStrings.{WritesSome}
use Rattle.text_write.proofs.json_string.put_contents.Given as goal

abbrev pub invariant-items : goal.invariant-items
invariant-items l = record {
  within : l.at ≤ l.count + 1;
  behind : (l.start ≤ l.end) × (l.end ≤ l.start + l.at);
  size : length l.row ≡ length l.fn.row;
  writes : WritesSome l.as_text l.bytes l.count (take l.start l.fn.row) (take l.end l.row) l.at;
  front : take l.start l.row ≡ take l.start l.fn.row;
}

abbrev pub decreases-items : goal.decreases-items
decreases-items l = l.count - l.at

use Rattle.std.proofs.Common.{◌≤◌, ◌<◌, ◌^◌, length}
use Rattle.key_zeros.specs.Turned.{turned}
use Rattle.key_zeros.proofs.Sevens.{ReadsSevens, SevensRead}
use Rattle.key_zeros.proofs.entry.read_sevens.Given as goal

abbrev pub invariant-sevens : goal.invariant-sevens
invariant-sevens l = record {
  reads : ReadsSevens (turned l.from_end l.bytes) l.n l.unit (turned l.from_end l.rest);
  read : SevensRead (turned l.from_end l.bytes) l.n l.unit (turned l.from_end l.rest);
  within : length l.rest ≤ length l.bytes;
  below : l.n < l.unit;
  narrow : l.unit ≤ 2 ^ 56;
  several : 128 ≤ l.unit;
}

abbrev pub decreases-sevens : goal.decreases-sevens
decreases-sevens l = length l.rest

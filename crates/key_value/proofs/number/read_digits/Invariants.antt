use Rattle.std.proofs.Common.{◌≤◌, length}
use Rattle.jsonb_spec.specs.SortKey.Reading.{ReadsDigits}
use Rattle.key_value.proofs.number.read_digits.Given as goal

-- what was read is before what is left
abbrev pub invariant-pairs : goal.invariant-pairs
invariant-pairs l = record {
  reads : ReadsDigits l.negative l.bytes l.digits l.count l.rest;
  few : l.count ≤ 40;
}

abbrev pub decreases-pairs : goal.decreases-pairs
decreases-pairs l = length l.rest

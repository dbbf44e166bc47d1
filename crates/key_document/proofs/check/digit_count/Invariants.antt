use Rattle.std.proofs.Common.{◌≤◌, ℕ, length}
use Rattle.jsonb_spec.specs.SortKey.Reading.{ReadsDigits}
use Rattle.key_document.proofs.check.digit_count.Given as goal

-- some digits were read
abbrev pub invariant-pairs : goal.invariant-pairs
invariant-pairs l = record {
  reads : (digits : ℕ) × ReadsDigits l.negative l.bytes digits l.count l.rest;
  within : length l.rest ≤ length l.bytes;
  few : l.count ≤ 40;
}

abbrev pub decreases-pairs : goal.decreases-pairs
decreases-pairs l = length l.rest

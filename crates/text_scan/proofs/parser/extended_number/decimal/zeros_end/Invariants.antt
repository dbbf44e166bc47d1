use Rattle.std.proofs.Common.{◌≡◌, ◌+◌, ◌-◌, ◌≤◌, length, drop}
use Rattle.jsonb_spec.specs.Parsing.ExtendedNumber.{zeros_length, zeros_from}
use Rattle.text_scan.proofs.parser.extended_number.decimal.zeros_end.Given as goal

abbrev pub invariant-zeros : goal.invariant-zeros
invariant-zeros l = (l.end ≤ length l.bytes) × (zeros_from l.bytes l.start ≡ l.end + zeros_length (drop l.end l.bytes))

abbrev pub decreases-zeros : goal.decreases-zeros
decreases-zeros l = length l.bytes - l.end

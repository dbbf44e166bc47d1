use Rattle.std.proofs.Common.{◌≡◌, ◌+◌, ◌-◌, ◌≤◌, length, drop}
use Rattle.jsonb_spec.specs.Parsing.Number.{digits_length, digits_from}
use Rattle.text_scan.proofs.parser.number.digits_end.Given as goal

abbrev pub invariant-digits : goal.invariant-digits
invariant-digits l = (l.end ≤ length l.bytes) × (digits_from l.bytes l.start ≡ l.end + digits_length (drop l.end l.bytes))

abbrev pub decreases-digits : goal.decreases-digits
decreases-digits l = length l.bytes - l.end

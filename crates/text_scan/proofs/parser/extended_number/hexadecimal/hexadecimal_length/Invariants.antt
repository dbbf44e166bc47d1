use Rattle.std.proofs.Common.{◌≡◌, ◌+◌, ◌-◌, ◌≤◌, length, drop}
use Rattle.jsonb_spec.specs.Parsing.ExtendedNumber.{hexadecimal_length}
use Rattle.text_scan.proofs.parser.extended_number.hexadecimal.hexadecimal_length.Given as goal

abbrev pub invariant-digits : goal.invariant-digits
invariant-digits l = (l.end ≤ length l.bytes) × (hexadecimal_length l.bytes ≡ l.end + hexadecimal_length (drop l.end l.bytes))

abbrev pub decreases-digits : goal.decreases-digits
decreases-digits l = length l.bytes - l.end

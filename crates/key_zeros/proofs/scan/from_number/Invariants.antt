use Rattle.std.proofs.Common.{◌≡◌, ◌≤◌, length}
use Rattle.key_zeros.specs.Scan.{from_number}
use Rattle.key_zeros.proofs.scan.from_number.Given as goal

abbrev pub invariant-bytes : goal.invariant-bytes
invariant-bytes l = record { same : from_number l.text ≡ from_number l.rest; within : length l.rest ≤ length l.text }

abbrev pub decreases-bytes : goal.decreases-bytes
decreases-bytes l = length l.rest

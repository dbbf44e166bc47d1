use Rattle.std.proofs.Common.{◌≡◌, ◌≤◌, ◌+◌, false, length}
use Rattle.jsonb_spec.specs.Document.Scan.{ending_of}
use Rattle.key_zeros.proofs.scan.ending_of.Given as goal

abbrev pub invariant-bytes : goal.invariant-bytes
invariant-bytes l = record { same : ending_of false 0 l.number ≡ ending_of l.pointed l.zeros l.rest; within : l.zeros + length l.rest ≤ length l.number }

abbrev pub decreases-bytes : goal.decreases-bytes
decreases-bytes l = length l.rest

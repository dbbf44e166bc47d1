use Rattle.std.proofs.Common.{◌≡◌, ◌≤◌, length}
use Rattle.key_zeros.specs.Scan.{from_number_behind}
use Rattle.key_zeros.proofs.scan.after_string.Given as goal

abbrev pub invariant-runs : goal.invariant-runs
invariant-runs l = record { same : from_number_behind l.bytes ≡ from_number_behind l.rest; within : length l.rest ≤ length l.bytes }

abbrev pub decreases-runs : goal.decreases-runs
decreases-runs l = length l.rest

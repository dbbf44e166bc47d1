use Rattle.std.proofs.Common.{ℕ, ◌<◌, get_or}
use Rattle.std.specs.Char.{digit_value}
use Rattle.text_scan.proofs.util.decoder.unit.first_non_digit.Given as goal

abbrev pub invariant-loop-byte : goal.invariant-loop-byte
invariant-loop-byte l = (k : ℕ) → k < l.byte-index → digit_value (get_or l.bytes k 0) < 16

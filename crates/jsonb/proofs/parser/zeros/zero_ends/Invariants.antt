use Rattle.std.proofs.Common.{◌≡◌, length}
use Rattle.jsonb.specs.EndZeros.{ends_in_zero}
use Rattle.jsonb.proofs.parser.zeros.zero_ends.Given as goal

abbrev pub invariant-digits : goal.invariant-digits
invariant-digits l = record { same : ends_in_zero 0 l.bytes ≡ ends_in_zero l.last l.rest }

abbrev pub decreases-digits : goal.decreases-digits
decreases-digits l = length l.rest

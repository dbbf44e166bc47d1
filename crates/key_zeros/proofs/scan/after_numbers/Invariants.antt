use Rattle.std.proofs.Common.{◌≡◌}
use Rattle.key_zeros.specs.Scan.{after_numbers}
use Rattle.key_zeros.proofs.scan.after_numbers.Given as goal

abbrev pub invariant-numbers : goal.invariant-numbers
invariant-numbers l = record { same : after_numbers l.before l.text ≡ after_numbers l.left l.rest }

abbrev pub decreases-numbers : goal.decreases-numbers
decreases-numbers l = l.left

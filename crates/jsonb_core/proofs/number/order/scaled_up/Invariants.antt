use Rattle.std.proofs.Common.{◌≡◌, pos, ◌*ℤ◌, ◌^◌}
use Rattle.jsonb_core.proofs.number.order.scaled_up.Given as goal

abbrev pub invariant-digits : goal.invariant-digits
invariant-digits l = l.scaled ≡ l.value *ℤ pos (10 ^ l.counter)

use Rattle.jsonb_spec.specs.SortKey.Front.{AreNoZeros}
use Rattle.key_walk.proofs.ascii.run_by_bytes_before_zero.Given as goal

abbrev pub invariant-bytes : goal.invariant-bytes
invariant-bytes l = AreNoZeros l.bytes l.i

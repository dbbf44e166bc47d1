use Rattle.key_walk.specs.Frames.{ArePlain}
use Rattle.key_walk.proofs.ascii.run_by_bytes.Given as goal

abbrev pub invariant-bytes : goal.invariant-bytes
invariant-bytes l = ArePlain l.bytes l.i

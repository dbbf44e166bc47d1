use Rattle.std.specs.Prelude.{replicate}
use Rattle.std.specs.Fmt.{IsPlainFormatter, HasWritten}
use Rattle.jsonb_core.proofs.number.text.write_zeros.Given as goal

abbrev pub invariant-zeros : goal.invariant-zeros
invariant-zeros g l = IsPlainFormatter l.fn.f → HasWritten g.W.Write.write_str_gives l.fn.f (replicate l.counter 48) l.f

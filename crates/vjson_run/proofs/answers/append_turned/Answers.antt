use Rattle.std.proofs.Common.{arith}
use Rattle.vjson_run.proofs.Parts.{turned_round}
use Rattle.vjson_run.proofs.answers.append_turned.Goals as goal

pub returns : goal.returns
returns c = record {
  ok = turned_round c.args.down c.args.bytes.now c.args.out.now.items c.bytes.out.items c.bytes.byte-index c.if-not-down.false (λ k. (c.type_inv.bytes k).fits) (omega (arith, c.bytes-test.false)) c.bytes.invariant;
}

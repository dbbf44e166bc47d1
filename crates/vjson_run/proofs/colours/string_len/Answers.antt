use Rattle.vjson_run.proofs.Coloured.{goes_on, passes}
use Rattle.vjson_run.proofs.colours.string_len.Goals.{then-passed, else-passed+else-byte-eq34}
use Rattle.vjson_run.proofs.colours.string_len.Goals as goal

pub bytes-preserved : goal.bytes-preserved
bytes-preserved c = elim c.if-passed.branch [
  | then-passed w ↦ passes c.args.bytes.now c.bytes.i _ c.bytes.passed c.if-passed.passed c.bytes-test.true w.if-passed.true w.passed-is c.bytes.invariant
  | else-passed+else-byte-eq34 w ↦ goes_on c.args.bytes.now c.bytes.i _ c.bytes.passed c.if-passed.passed c.bytes-test.true w.if-passed.false w.if-byte-eq34.false w.passed-is c.bytes.invariant
]

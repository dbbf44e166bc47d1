use Rattle.std.proofs.Common.{◌+◌, take, arith, length-take-le}
use Rattle.std.proofs.lemmas.Simd.{take_more_put_chunk}
use Rattle.text_scan.proofs.util.decoder.run.write_sixteen.Goals as goal

pub returns-clause-written : goal.returns-clause-written
returns-clause-written c =
    take_more_put_chunk c.args.len c.args.text.now (take 16 c.args.bytes.now) (c.args.len + 16) (omega (arith, length-take-le 16 c.args.bytes.now c.requires.enough)) (omega arith)

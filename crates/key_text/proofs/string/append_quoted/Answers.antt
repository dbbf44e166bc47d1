use Rattle.std.proofs.Common.{subst, ◌+◌, arith}
use Rattle.key_text.specs.Writes.{AppendsOrNot}
use Rattle.key_text.proofs.Rows.{quoted}
use Rattle.key_text.proofs.string.append_quoted.Goals as goal

pub returns : goal.returns
returns c = subst (AppendsOrNot c.append_within.result c.args.buf.now c.append_within.new.buf) (quoted c.args.colon c.args.chunk.now c.args.run (c.args.run + 1 + c.closing_len.result) c.told-chunk c.requires (omega (arith, c.closing_len.ensures))) c.append_within.ensures

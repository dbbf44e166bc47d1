use Rattle.std.proofs.Common.{subst}
use Rattle.key_text.specs.Writes.{AppendsOrNot}
use Rattle.key_text.proofs.Rows.{after_comma}
use Rattle.key_text.proofs.string.append_after_comma.Goals as goal

pub returns : goal.returns
returns c = subst (AppendsOrNot c.append_within.result c.args.buf.now c.append_within.new.buf) (after_comma c.args.chunk.now c.args.run c.told-chunk c.requires) c.append_within.ensures

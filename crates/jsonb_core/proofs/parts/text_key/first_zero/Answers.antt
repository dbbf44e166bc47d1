use Rattle.jsonb_core.proofs.SortKeys.Zeros.{before_zero}
use Rattle.jsonb_core.proofs.parts.text_key.first_zero.Goals as goal

pub returns-clause-plain : goal.returns-clause-plain
returns-clause-plain c = rw c.unwrap_or.ensures (before_zero c.args.bytes.now c.memchr.result c.memchr.ensures)

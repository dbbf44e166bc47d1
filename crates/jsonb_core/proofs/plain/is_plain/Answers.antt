use Rattle.jsonb_core.proofs.Strings.PlainTexts.{plain_where}
use Rattle.jsonb_core.proofs.plain.is_plain.Goals as goal

pub returns : goal.returns
returns c = plain_where c.args.bytes.now c.plain_len.result c.args.count c.plain_len.ensures.plain

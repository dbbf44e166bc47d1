use Rattle.vjson_run.proofs.Ordered.{as_asked}
use Rattle.vjson_run.proofs.lines.keys_order_as_asked.Goals as goal

pub returns : goal.returns
returns c = as_asked

use Rattle.vjson_run.proofs.Ordered.{as_values}
use Rattle.vjson_run.proofs.lines.lines_order_as_values.Goals as goal

pub returns : goal.returns
returns c = as_values

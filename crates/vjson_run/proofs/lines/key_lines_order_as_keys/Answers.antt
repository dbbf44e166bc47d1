use Rattle.vjson_run.proofs.KeyLines.{keyed_cmp}
use Rattle.vjson_run.proofs.lines.key_lines_order_as_keys.Goals as goal

pub returns : goal.returns
returns c = keyed_cmp

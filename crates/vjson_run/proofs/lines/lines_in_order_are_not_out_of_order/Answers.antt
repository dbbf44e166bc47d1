use Rattle.vjson_run.proofs.OneAnswer.{one_answer}
use Rattle.vjson_run.proofs.lines.lines_in_order_are_not_out_of_order.Goals as goal

pub returns : goal.returns
returns c = one_answer

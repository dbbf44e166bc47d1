use Rattle.vjson_run.proofs.Cuts.{lines_step}
use Rattle.vjson_run.proofs.input.lines_begin_with_the_first.Goals as goal

pub returns : goal.returns
returns c = lines_step

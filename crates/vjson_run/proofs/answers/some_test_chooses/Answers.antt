use Rattle.vjson_run.proofs.Chosen.{some_test}
use Rattle.vjson_run.proofs.answers.some_test_chooses.Goals as goal

pub returns : goal.returns
returns c = some_test

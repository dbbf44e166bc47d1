use Rattle.jsonb.proofs.Modes.JsonAndStandard.{json_same, standard_of_json}
use Rattle.jsonb.proofs.laws.standard_takes_integers_of_json.Goals as goal

pub returns-clause-takes : goal.returns-clause-takes
returns-clause-takes c = standard_of_json

pub returns-clause-same : goal.returns-clause-same
returns-clause-same c = json_same

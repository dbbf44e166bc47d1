use Rattle.jsonb.proofs.Modes.JsonTexts.{json_texts}
use Rattle.jsonb.proofs.laws.json_texts_are_those_of_its_productions.Goals as goal

pub returns : goal.returns
returns c = json_texts

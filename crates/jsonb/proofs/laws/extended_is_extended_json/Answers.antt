use Rattle.jsonb.proofs.Modes.ExtendedIsExtendedJson.{extended_is_extended_json}
use Rattle.jsonb.proofs.laws.extended_is_extended_json.Goals as goal

pub returns : goal.returns
returns c = extended_is_extended_json

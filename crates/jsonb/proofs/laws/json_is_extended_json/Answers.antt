use Rattle.jsonb.proofs.Modes.JsonIsExtendedJson.{json_is_extended_json}
use Rattle.jsonb.proofs.laws.json_is_extended_json.Goals as goal

pub returns : goal.returns
returns c = json_is_extended_json

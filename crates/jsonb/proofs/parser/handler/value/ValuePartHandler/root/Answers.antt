use Rattle.jsonb.proofs.Given.{all_made}
use Rattle.jsonb.proofs.parser.handler.value.ValuePartHandler.root.Goals as goal

pub returns-clause-filled : goal.returns-clause-filled
returns-clause-filled g c = λ text s held is. ((all_made is).0, held)

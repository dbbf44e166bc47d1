use Rattle.jsonb.proofs.Given.{all_made}
use Rattle.jsonb.proofs.parser.handler.ast.JsonAstHandler.root.Goals as goal

pub returns-clause-filled : goal.returns-clause-filled
returns-clause-filled c = λ text s held is. ((all_made is).0, held)

use Rattle.std.proofs.Common.{[]}
use Rattle.jsonb_spec.specs.Tree.Mark.{plain}
use Rattle.text_write.proofs.Checks.{value_ended}
use Rattle.jsonb.proofs.parser.handler.check.CheckedPartHandler.insert.Goals as goal

pub returns-clause-put : goal.returns-clause-put
returns-clause-put g c = λ text s front k offset fs cs held is. value_ended s (plain, []) 0 held

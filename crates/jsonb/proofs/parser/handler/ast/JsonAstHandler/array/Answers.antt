use Rattle.std.proofs.Common.{sym, ◌∙◌}
use Rattle.jsonb.proofs.Containers.Built.{array_of_asts}
use Rattle.jsonb.proofs.parser.handler.ast.JsonAstHandler.array.Goals as goal

pub returns : goal.returns
returns c = λ text s fs cs done. (array_of_asts c.args.items done.0.0 done.0.1 ∙ sym done.0.2, done.1)

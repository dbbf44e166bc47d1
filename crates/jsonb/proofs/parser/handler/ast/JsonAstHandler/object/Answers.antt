use Rattle.std.proofs.Common.{◌∙◌}
use Rattle.jsonb.proofs.Offsets.Views.{source-Object}
use Rattle.jsonb.proofs.parser.handler.ast.JsonAstHandler.object.Goals as goal

pub returns : goal.returns
returns c = λ text s key fs cs done. (source-Object c.args.members ∙ done.0, done.1)

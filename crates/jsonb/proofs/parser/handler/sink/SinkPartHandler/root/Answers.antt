use Rattle.std.proofs.Common.{[]}
use Rattle.jsonb.proofs.Containers.Built.{on_ok}
use Rattle.jsonb.proofs.Given.{scalar_given}
use Rattle.jsonb.proofs.parser.handler.sink.SinkPartHandler.root.Goals as goal

pub returns-clause-filled : goal.returns-clause-filled
returns-clause-filled g c = on_ok c.fill.result (λ filled text s held is. filled text s [] [] held (scalar_given c.args.value.now.part c.args.value.now.verbatim (λ k e. e) is)) c.fill.ensures.filled

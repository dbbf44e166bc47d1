use Rattle.std.proofs.Common.{map}
use Rattle.jsonb.specs.Held.{held_by}
use Rattle.text_parse.proofs.Steps.Failures.{if_ok}
use Rattle.jsonb.proofs.parser.handler.sink.SinkPartHandler.items.Goals as goal

pub returns-clause-opened : goal.returns-clause-opened
returns-clause-opened g c = if_ok c.begin_array.result (λ items h text fs cs held. h text (map (held_by g.S.Sink.array g.S.Sink.object) fs) cs held) c.begin_array.ensures.holds

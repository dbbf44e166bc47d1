use Rattle.std.proofs.Common.{map}
use Rattle.jsonb.specs.Held.{held_by}
use Rattle.jsonb.proofs.parser.handler.sink.SinkPartHandler.push_inner.Goals as goal

pub returns-clause-put : goal.returns-clause-put
returns-clause-put g c = λ text s ss fs cs filled. c.push_inner.ensures.holds text s (map (held_by g.S.Sink.array g.S.Sink.object) fs) ss cs filled

use Rattle.std.proofs.Common.{[], map}
use Rattle.jsonb_spec.specs.Tree.Mark.{plain}
use Rattle.jsonb.specs.Held.{held_by}
use Rattle.jsonb.proofs.parser.handler.sink.SinkPartHandler.insert_inner.Goals as goal

pub returns-clause-put : goal.returns-clause-put
returns-clause-put g c = λ text s front k offset fs cs filled. c.insert_inner.ensures.holds text s (map (held_by g.S.Sink.array g.S.Sink.object) fs) front k offset cs (plain, []) 0 filled

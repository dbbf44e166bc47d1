use Rattle.std.proofs.Common.{[], map}
use Rattle.jsonb_spec.specs.Tree.Mark.{plain}
use Rattle.jsonb.specs.Held.{held_by}
use Rattle.jsonb.proofs.parser.handler.sink.SinkPartHandler.members.Goals as goal

pub returns-clause-opened : goal.returns-clause-opened
returns-clause-opened g c = λ text fs cs held. c.in_ok-members.ensures.holds text (map (held_by g.S.Sink.array g.S.Sink.object) fs) cs (plain, []) 0 held

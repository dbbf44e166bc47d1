use Rattle.std.proofs.Common.{map}
use Rattle.jsonb.specs.Held.{held_by}
use Rattle.jsonb.proofs.Containers.Built.{on_ok}
use Rattle.jsonb.proofs.parser.handler.sink.SinkPartHandler.end_items.Goals as goal

pub returns-clause-ended : goal.returns-clause-ended
returns-clause-ended g c = on_ok c.end_array.result (λ h text ss fs cs held. h text (map (held_by g.S.Sink.array g.S.Sink.object) fs) ss cs held) c.end_array.ensures.holds

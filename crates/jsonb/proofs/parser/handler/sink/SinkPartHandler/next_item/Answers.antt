use Rattle.std.proofs.Common.{map}
use Rattle.jsonb.specs.Held.{held_by}
use Rattle.jsonb.proofs.Containers.Built.{on_ok}
use Rattle.jsonb.proofs.parser.handler.sink.SinkPartHandler.next_item.Goals as goal

pub returns-clause-due : goal.returns-clause-due
returns-clause-due g c = on_ok c.next_item.result (λ h text ss fs cs held. h text (map (held_by g.S.Sink.array g.S.Sink.object) fs) ss cs held) c.next_item.ensures.holds

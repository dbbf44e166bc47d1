use Rattle.jsonb.proofs.Containers.Built.{put-end}
use Rattle.jsonb.proofs.parser.handler.value.ValuePartHandler.finish.Goals as goal

pub returns-clause-ended : goal.returns-clause-ended
returns-clause-ended g c = λ text front key k offset fs cs rest held.
    let ends = put-end front c.args.members.now.entries rest held.0.0 in (ends.0, (ends.1, held.1), ends.2)

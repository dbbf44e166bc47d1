use Rattle.std.proofs.Common.{◌∷◌, [], map}
use Rattle.jsonb_spec.specs.Tree.Mark.{plain}
use Rattle.jsonb.specs.Held.{held_by}
use Rattle.jsonb_spec.specs.Source.Open.{members_so_far}
use Rattle.jsonb.proofs.Given.{scalar_given}
use Rattle.jsonb.proofs.parser.handler.sink.SinkPartHandler.insert.Goals as goal

pub returns-clause-put : goal.returns-clause-put
returns-clause-put g c = λ text s front k offset fs cs holds is.
    let held = map (held_by g.S.Sink.array g.S.Sink.object) fs in
    c.insert_inner.ensures.holds text s held front k offset cs (plain, []) 0 (c.in_ok-fill.ensures.filled text s (g.S.Sink.object c.args.object.now.members ∷ held) (members_so_far front k offset ∷ cs) holds (scalar_given c.args.value.part c.args.value.verbatim (λ k e. e) is))

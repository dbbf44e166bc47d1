use Rattle.std.proofs.Common.{subst}
use Rattle.text_parse.proofs.parser.value.frame_value.Goals as goal

pub returns-in-Object : goal.returns-in-Object
returns-in-Object g c = λ text s fs cs done.
    c.object.ensures text s c.in-Object.object.key fs cs (subst (λ f. g.V.Handler.completes text c.args.sink.now f s fs cs) c.in-Object.is done)

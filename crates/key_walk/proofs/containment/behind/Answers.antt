use Rattle.std.proofs.Common.{Some, ap}
use Rattle.key_walk.proofs.Walked.{end_behind}
use Rattle.key_walk.proofs.containment.behind.Goals as goal

pub returns-in-Some : goal.returns-in-Some
returns-in-Some c = λ o is h more e. ap Some (end_behind c.args.object o c.args.parts.now c.in-Some.rest.now more is h e c.in-Some.ensures.some)

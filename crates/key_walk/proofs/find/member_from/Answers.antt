use Rattle.std.proofs.Common.{Ok, subst}
use Rattle.key_walk.specs.Found.{Finds}
use Rattle.key_walk.proofs.Occurrence.{found_by_name}
use Rattle.key_walk.proofs.find.member_from.Goals as goal

pub returns-in_err-passed-clause-found : goal.returns-in_err-passed-clause-found
returns-in_err-passed-clause-found g c = λ ms a p w more e. absurd (c.in_err-passed.ensures.passed ms p w more e)

pub returns-clause-found : goal.returns-clause-found
returns-clause-found g c = λ ms a p w more e.
    subst (λ part. Finds c.args.members.now part (Ok c.in_ok-passed.passed.same)) (found_by_name ms c.args.name.now a) (c.in_ok-passed.ensures.passed ms p w more e).same

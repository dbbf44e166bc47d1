use Rattle.key_walk.specs.Frames.{KeyFirst}
use Rattle.key_walk.proofs.Checks.{never, through}
use Rattle.key_walk.proofs.Framed.{opened_first, scalar_key, no_key_first}
use Rattle.key_walk.proofs.check.checked_key.Goals as goal

pub returns-in_default : goal.returns-in_default
returns-in_default c = never (KeyFirst c.args.bytes.now) (λ more k. no_key_first c.args.bytes.now more c.in_default.ensures.cases k)

pub returns-in-Some-opening : goal.returns-in-Some-opening
returns-in-Some-opening c = λ more.
    through _ _ _ (c.checked_parts.ensures more) (opened_first c.in-Some.first.now c.in-Some-opening.object c.args.bytes.now c.in-Some.rest.now c.in-Some.ensures.cases.0 c.in-Some-opening.ensures more)

pub returns-in-None : goal.returns-in-None
returns-in-None c = λ more.
    through _ _ _ (c.checked_scalar.ensures.checks.found more) (scalar_key c.in-Some.first.now c.args.bytes.now c.in-Some.rest.now c.in-Some.ensures.cases.0 (c.in-None.ensures.0, c.in-None.ensures.1) more)

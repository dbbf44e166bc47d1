use Rattle.key_value.proofs.FirstBytes.{no_key}
use Rattle.key_walk.proofs.Finds.{parent_of}
use Rattle.key_walk.proofs.Occurrence.{left_of}
use Rattle.key_walk.proofs.find.open_key.Goals as goal

pub returns-in_default-clause-opens : goal.returns-in_default-clause-opens
returns-in_default-clause-opens c = λ t r more e. absurd (no_key 512 t r c.args.key.now more e c.in_default.ensures.cases)

pub returns-in-Some-opening-clause-opens : goal.returns-in-Some-opening-clause-opens
returns-in-Some-opening-clause-opens c = λ t r more e.
    left_of t c.in-Some-opening.object c.in-Some.parts.now more (parent_of t r c.in-Some.first.now c.in-Some.parts.now c.args.key.now more c.in-Some.ensures.cases.0 e c.in-Some-opening.object c.in-Some-opening.ensures)

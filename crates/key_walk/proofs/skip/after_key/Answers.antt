use Rattle.std.proofs.Common.{Some, ap, ◌∙◌}
use Rattle.key_value.proofs.FirstBytes.{no_key}
use Rattle.key_walk.proofs.Scalars.{opened, scalar_there, opened_at_top}
use Rattle.key_walk.proofs.skip.after_key.Goals as goal

pub returns-in_err-first-clause-found : goal.returns-in_err-first-clause-found
returns-in_err-first-clause-found c = λ t r more e. absurd (no_key 512 t r c.args.bytes.now more e c.in_err-first.ensures.cases)

pub returns-in-Some-clause-found : goal.returns-in-Some-clause-found
returns-in-Some-clause-found c = λ t r more e.
    let x = opened 512 t r c.in_ok-first.first.now c.in_ok-first.rest.now c.args.bytes.now more c.in_ok-first.ensures.cases.0 e c.in-Some.object c.in-Some.ensures in
    let size = c.parts_size.ensures.found x.open_there x.is (opened_at_top x.open_there x.inner x.deeper x.fits) more x.occurs in
    c.after_size.ensures.found size.0 ∙ ap Some size.1

pub returns-in-None-clause-found : goal.returns-in-None-clause-found
returns-in-None-clause-found c = λ t r more e.
    let scalar = scalar_there 512 t r c.in_ok-first.first.now c.in_ok-first.rest.now c.args.bytes.now more c.in_ok-first.ensures.cases.0 e c.in-None.ensures.0 c.in-None.ensures.1 in
    c.after_scalar.ensures.found 512 t r scalar more e

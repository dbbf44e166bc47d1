use Rattle.std.proofs.Common.{◌++◌, ap, sym, ◌∙◌}
use Rattle.key_value.proofs.FirstBytes.{no_key}
use Rattle.key_walk.proofs.Scalars.{opened_at_top, scalar_there}
use Rattle.key_text.proofs.Appending.{as_text}
use Rattle.jsonb_spec.specs.Document.Counts.{counts_open}
use Rattle.key_text.proofs.Counts.{due_as, due_behind}
use Rattle.key_text.proofs.Scalars.{opened_text}
use Rattle.key_text.proofs.write.append_value.Goals as goal

pub returns-in_default-clause-found : goal.returns-in_default-clause-found
returns-in_default-clause-found g c = λ t r more e later each d. absurd (no_key 512 t r c.args.bytes.now more e c.in_default.ensures.cases)

pub returns-in-Some-opening-clause-found : goal.returns-in-Some-opening-clause-found
returns-in-Some-opening-clause-found g c = λ t r more e later each d.
    let x = opened_text 512 t r c.in-Some.first.now c.in-Some.rest.now c.args.bytes.now more c.in-Some.ensures.cases.0 e c.in-Some-opening.object c.in-Some-opening.ensures in
    as_text (λ rest. rest.now) c.append_parts.result c.args.buf.now c.append_parts.new.buf more _ _ x.text (c.append_parts.ensures.found x.open_there x.is (opened_at_top x.open_there x.inner x.deeper x.fits) more x.occurs later each (due_behind (g.Z.Zeros.due c.args.zeros.now) 1 (counts_open x.open_there ++ later) (due_as (g.Z.Zeros.due c.args.zeros.now) _ _ (ap (λ cs. cs ++ later) x.counts) d)))

pub returns-in-None-clause-found : goal.returns-in-None-clause-found
returns-in-None-clause-found g c = λ t r more e later each d.
    let scalar = scalar_there 512 t r c.in-Some.first.now c.in-Some.rest.now c.args.bytes.now more c.in-Some.ensures.cases.0 e c.in-None.ensures.0 c.in-None.ensures.1 in
    (c.append_scalar.ensures.found 512 t r scalar more (sym c.in-Some.ensures.cases.0 ∙ e) later each d).0

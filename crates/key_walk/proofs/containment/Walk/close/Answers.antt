use Rattle.std.proofs.Common.{refl, sym, ◌∙◌}
use Rattle.key_value.proofs.Texts.{some_same}
use Rattle.jsonb_spec.specs.SortKey.Open.{open_key}
use Rattle.key_walk.proofs.Walked.{moved_on}
use Rattle.key_walk.proofs.containment.Walk.close.Goals as goal

pub returns-clause-closed : goal.returns-clause-closed
returns-clause-closed c = λ of_object more behind e.
    let s = e.inside in
    let ours = some_same c.in-Some.ours.now more (c.in-Some.ensures s.parts (s.is ∙ sym e.kind) s.fits more s.occurs.0.is) in
    (refl, (moved_on c.args.self.now.key.now c.args.self.now.ours.now (open_key s.parts) c.in-Some.ours.now more s.occurs.0 ours, s.occurs.1))

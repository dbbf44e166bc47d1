use Rattle.std.proofs.Common.{Ok, ap, subst, sym, ◌∙◌}
use Rattle.std.specs.Option.{option_and_then}
use Rattle.jsonb_spec.specs.PartAt.{child_at}
use Rattle.key_walk.specs.Found.{Finds}
use Rattle.key_walk.proofs.PlainPaths.{found_inside}
use Rattle.key_walk.proofs.Occurrence.{says_some}
use Rattle.key_walk.proofs.find.child_of.Goals as goal

pub returns-clause-found : goal.returns-clause-found
returns-clause-found c = λ bytes part f.
    let s = says_some bytes c.in-Some.part part (subst (λ found. Finds bytes part found) (c.in_ok-part.was ∙ ap Ok c.in-Some.is) f) in
    subst (λ p. Finds bytes (option_and_then (child_at c.args.name.now) p) c.find_child.result) (sym s.is)
    (found_inside bytes c.in-Some.part.now s.part (child_at c.args.name.now s.part) c.find_child.result s.there (c.find_child.ensures.finds.found s.part s.there.readable s.there.behind s.there.occurs))

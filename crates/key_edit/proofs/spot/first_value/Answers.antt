use Rattle.key_value.proofs.Texts.{none_some, some_same}
use Rattle.key_walk.proofs.Occurrence.{next_occurs}
use Rattle.key_edit.proofs.Spotted.{first_over, first_occurs}
use Rattle.key_edit.proofs.spot.first_value.Goals as goal

pub returns-in-Some-clause-first : goal.returns-in-Some-clause-first
returns-in-Some-clause-first c = λ o is h more e. first_over o c.args.object c.args.left.now _ more is h e c.in-Some.ensures.some

pub returns-in-Some-after_name-clause-first : goal.returns-in-Some-after_name-clause-first
returns-in-Some-after_name-clause-first c = λ o is h more e.
    let n = next_occurs o c.args.object c.args.left.now more is h e (λ tail over. none_some tail (c.in-None.ensures.found tail over)) in
    first_occurs o c.args.object c.args.left.now more c.in-Some-after_name.value n (some_same c.in-Some-after_name.value.now _ (c.in-Some-after_name.ensures.found n.name _ n.occurs))

pub returns-in-None-after_name-clause-first : goal.returns-in-None-after_name-clause-first
returns-in-None-after_name-clause-first c = λ o is h more e.
    let n = next_occurs o c.args.object c.args.left.now more is h e (λ tail over. none_some tail (c.in-None.ensures.found tail over)) in
    absurd (none_some _ (c.in-None-after_name.ensures.found n.name _ n.occurs))

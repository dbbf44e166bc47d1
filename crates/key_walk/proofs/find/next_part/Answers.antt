use Rattle.key_value.proofs.Texts.{none_some, some_same}
use Rattle.key_walk.proofs.Occurrence.{next_over, next_occurs}
use Rattle.key_walk.proofs.find.next_part.Goals as goal

pub returns-then-is_over-clause-next : goal.returns-then-is_over-clause-next
returns-then-is_over-clause-next c = λ o is h more e.
    let over = c.is_over.ensures.yes c.if-is_over.true in
    next_over o c.args.object c.args.left.now over.0 more is h e over.1

pub returns-in_default-clause-next : goal.returns-in_default-clause-next
returns-in_default-clause-next c = λ o is h more e.
    let n = next_occurs o c.args.object c.args.left.now more is h e (c.is_over.ensures.no c.if-is_over.false) in
    absurd (none_some _ (c.in_default.ensures.found n.name _ n.occurs))

pub returns-in_default-after_key-clause-next : goal.returns-in_default-after_key-clause-next
returns-in_default-after_key-clause-next c = λ o is h more e.
    let n = next_occurs o c.args.object c.args.left.now more is h e (c.is_over.ensures.no c.if-is_over.false) in
    let value = some_same c.in-Some.value.now _ (c.in-Some.ensures.found n.name _ n.occurs) in
    absurd (none_some _ (c.in_default-after_key.ensures.found n.value n.readable _ value))

pub returns-clause-next : goal.returns-clause-next
returns-clause-next c = λ o is h more e.
    let n = next_occurs o c.args.object c.args.left.now more is h e (c.is_over.ensures.no c.if-is_over.false) in
    let value = some_same c.in-Some.value.now _ (c.in-Some.ensures.found n.name _ n.occurs) in
    let others = some_same c.in-Some-after_key.others.now _ (c.in-Some-after_key.ensures.found n.value n.readable _ value) in
    n.reported c.in-Some.value c.in-Some-after_key.others value others

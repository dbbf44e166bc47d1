use Rattle.std.proofs.Common.{refl}
use Rattle.key_value.proofs.FirstBytes.{no_key}
use Rattle.key_walk.proofs.NextPart.{at_value, ended, never, never_ends, never_kind, opened, scalar_read}
use Rattle.key_walk.proofs.part.read_part.Goals as goal

pub returns-in-Some-clause-next : goal.returns-in-Some-clause-next
returns-in-Some-clause-next c = λ o is left h more e.
    ended c.args.object c.args.bytes.now o is left h more e c.in-Some.after.now c.in-Some.ensures.some c.in-Some.ensures.found

pub returns-in_default-after_name-clause-next : goal.returns-in_default-after_name-clause-next
returns-in_default-after_name-clause-next c = λ o is left h more e.
    never c.args.object c.args.bytes.now o is left h more e c.in_default.ensures.found c.in_default-after_name.ensures.found

pub returns-in_default-split_first-clause-next : goal.returns-in_default-split_first-clause-next
returns-in_default-split_first-clause-next c = λ o is left h more e.
    at_value c.args.object c.args.bytes.now o is left h more e c.in_default.ensures.found c.in-Some-after_name.value.now c.in-Some-after_name.ensures.found
    (λ t behind. ⊥) (λ t r behind there. no_key left t r c.in-Some-after_name.value.now behind there c.in_default-split_first.ensures.cases)

pub returns-in-Some-opening-clause-next : goal.returns-in-Some-opening-clause-next
returns-in-Some-opening-clause-next c = λ o is left h more e.
    opened c.args.object c.args.bytes.now o is left h more e c.in_default.ensures.found c.in-Some-after_name.value.now c.in-Some-after_name.ensures.found
    c.in-Some-split_first.first.now c.in-Some-split_first.parts.now c.in-Some-split_first.ensures.cases.0 c.in-Some-opening.object c.in-Some-opening.ensures _ refl refl refl

pub returns-in_default-kind_of-clause-next : goal.returns-in_default-kind_of-clause-next
returns-in_default-kind_of-clause-next c = λ o is left h more e.
    never_kind c.args.object c.args.bytes.now o is left h more e c.in_default.ensures.found c.in-Some-after_name.value.now c.in-Some-after_name.ensures.found
    c.in-Some-split_first.first.now c.in-Some-split_first.parts.now c.in-Some-split_first.ensures.cases.0 c.in_default-opening.ensures.0 c.in_default-opening.ensures.1 c.in_default-kind_of.ensures.kind

pub returns-in_default-after_scalar-clause-next : goal.returns-in_default-after_scalar-clause-next
returns-in_default-after_scalar-clause-next c = λ o is left h more e.
    never_ends c.args.object c.args.bytes.now o is left h more e c.in_default.ensures.found c.in-Some-after_name.value.now c.in-Some-after_name.ensures.found
    c.in-Some-split_first.first.now c.in-Some-split_first.parts.now c.in-Some-split_first.ensures.cases.0 c.in_default-opening.ensures.0 c.in_default-opening.ensures.1 c.in_default-after_scalar.ensures.found

pub returns-clause-next : goal.returns-clause-next
returns-clause-next c = λ o is left h more e.
    scalar_read c.args.object c.args.bytes.now o is left h more e c.in_default.ensures.found c.in-Some-after_name.value.now c.in-Some-after_name.ensures.found
    c.in-Some-split_first.first.now c.in-Some-split_first.parts.now c.in-Some-split_first.ensures.cases.0 c.in_default-opening.ensures.0 c.in_default-opening.ensures.1
    c.in-Some-after_scalar.after.now c.in-Some-after_scalar.ensures.found c.in-Some-kind_of.kind c.in-Some-kind_of.ensures.kind _ refl refl refl refl refl refl

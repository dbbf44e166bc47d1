use Rattle.std.proofs.Common.{subst, sym}
use Rattle.text_members.specs.Fingerprints.{IsIn}
use Rattle.text_members.proofs.DifferentKeys.{new, retained, there}
use Rattle.text_members.proofs.fingerprints.put.Goals as goal

pub returns-then-row-slot-eq0-clause-retained : goal.returns-then-row-slot-eq0-clause-retained
returns-then-row-slot-eq0-clause-retained c = λ _ other tag is.
    retained c.slots.row c.slots.slot c.args.tag c.if-slot-row.false c.if-tag-eq0.false c.if-row-slot-eq0.true other tag (subst (λ row. IsIn row other tag) (sym c.slots.invariant.0) is)

pub returns-then-row-slot-eq0-clause-there : goal.returns-then-row-slot-eq0-clause-there
returns-then-row-slot-eq0-clause-there c = λ _.
    there c.slots.row c.slots.slot c.args.tag c.if-slot-row.false c.if-tag-eq0.false c.if-row-slot-eq0.true c.args.home c.slots.invariant.1.0 c.slots.invariant.1.1

pub returns-then-row-slot-eq0-clause-new : goal.returns-then-row-slot-eq0-clause-new
returns-then-row-slot-eq0-clause-new c = λ _ is.
    new c.slots.row c.slots.slot c.args.tag c.if-slot-row.false c.if-tag-eq0.false c.if-row-slot-eq0.true c.args.home c.slots.invariant.1.0 c.slots.invariant.1.1 (subst (λ row. IsIn row c.args.home c.args.tag) (sym c.slots.invariant.0) is)

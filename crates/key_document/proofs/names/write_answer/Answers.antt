use Rattle.std.proofs.Common.{[], append-nil, refl, sym, ap, subst, ◌∙◌}
use Rattle.key_value.proofs.Texts.{none_some}
use Rattle.jsonb_spec.specs.Proper.{IsProper}
use Rattle.jsonb_spec.specs.SortKey.{key_of}
use Rattle.jsonb_spec.specs.Tree.{array, object}
use Rattle.key_edit.proofs.Joined.{items_there, members_there}
use Rattle.jsonb_spec.specs.Edit.LeftOut.{beside_names}
use Rattle.key_document.specs.Retaining.{AreAhead, WritesAnswer}
use Rattle.key_document.proofs.Beside.{none_beside_scalar}
use Rattle.key_document.proofs.Retained.{nothing_written}
use Rattle.key_document.proofs.names.write_answer.Goals as goal
use Rattle.jsonb_spec.specs.Document.Counts.{counts_at}

pub returns-in-Some-clause-written : goal.returns-in-Some-clause-written
returns-in-Some-clause-written c = λ ns h f t r e a.
    let x = members_there t r c.args.key.now c.in-Some.members.now e c.in-Some.ensures.some in
    subst (λ u. WritesAnswer c.args.output (beside_names ns u) c.write_members.result c.args.out.now c.write_members.new.out) (sym x.is)
    (c.write_members.ensures.written x.ms ns x.readable h x.occurs f (record { nothing = refl; pending_is = c.in-Some.ensures.some; are_ahead = subst (λ u. AreAhead c.args.output (counts_at u)) x.is a }))

pub returns-in-Some-items_of-clause-written : goal.returns-in-Some-items_of-clause-written
returns-in-Some-items_of-clause-written c = λ ns h f t r e a.
    let x = items_there t r c.args.key.now c.in-Some-items_of.items.now e c.in-Some-items_of.ensures.some in
    subst (λ u. WritesAnswer c.args.output (beside_names ns u) c.write_items.result c.args.out.now c.write_items.new.out) (sym x.whole)
    (c.write_items.ensures.written x.ts (record { proper = subst IsProper x.whole r.proper; within = x.within }) ns h x.occurs f (record { nothing = refl; pending_is = c.in-Some-items_of.ensures.some; are_ahead = subst (λ u. AreAhead c.args.output (counts_at u)) x.whole a }))

pub returns-in-None-clause-written : goal.returns-in-None-clause-written
returns-in-None-clause-written c = λ ns h f t r e a.
    nothing_written c.args.output (beside_names ns t) c.args.out.now
    (none_beside_scalar ns t
    (λ ms is. none_some _ (c.in_default.ensures.object ms [] (e ∙ ap key_of is ∙ sym (append-nil (key_of (object ms))))))
    (λ ts is. none_some _ (c.in-None.ensures.array ts [] (e ∙ ap key_of is ∙ sym (append-nil (key_of (array ts)))))))

use Rattle.std.proofs.Common.{◌<◌, ◌^◌, length, ap, subst, sym, ◌∙◌, arith}
use Rattle.jsonb_spec.specs.SortKey.{key_of}
use Rattle.key_edit.proofs.Joined.{members_there, merged_items, merged_objects}
use Rattle.jsonb_spec.specs.Document.{zeros_at}
use Rattle.key_document.specs.Splices.{AppendsZeros}
use Rattle.key_document.proofs.merge.merge_zeros.Goals as goal
use Rattle.jsonb_spec.specs.Document.Counts.{counts_at}

pub returns-in-Some-clause-merged : goal.returns-in-Some-clause-merged
returns-in-Some-clause-merged c = λ t u r i e z f w fit.
    let a = members_there t r c.args.key.now c.in-Some.members.now e c.in-Some.ensures.0 in
    let b = members_there u i c.args.other.now c.in-Some.others.now f c.in-Some.ensures.1 in
    let same = merged_objects t u a.ms b.ms a.is b.is in
    subst (λ v. AppendsZeros c.join_members.result c.args.out.now c.join_members.new.out (zeros_at v)) same
    (c.join_members.ensures.joined a.ms b.ms a.readable b.readable a.occurs b.occurs (z ∙ ap zeros_at a.is) (w ∙ ap zeros_at b.is) (omega (arith, ap length c.in-Some.ensures.0)) (omega (arith, ap length c.in-Some.ensures.1)) (omega (arith, fit, ap (λ v. length (counts_at v)) same)))

pub returns-in-None-clause-merged : goal.returns-in-None-clause-merged
returns-in-None-clause-merged c = λ t u r i e z f w fit.
    let same = merged_items t u (λ ms ns is also. c.in-None.ensures ms ns (e ∙ ap key_of is) (f ∙ ap key_of also)) in
    subst (λ v. AppendsZeros c.join_items.result c.args.out.now c.join_items.new.out (zeros_at v)) same
    (c.join_items.ensures.joined t u r i e z f w (subst (λ v. length (counts_at v) < 2 ^ 63) (sym same) fit))

use Rattle.std.proofs.Common.{ap, subst, ◌∙◌}
use Rattle.jsonb_spec.specs.SortKey.{key_of}
use Rattle.key_edit.specs.Edit.{AppendsKey}
use Rattle.key_edit.proofs.Joined.{members_there, merged_items, merged_objects}
use Rattle.key_edit.proofs.merge.append_merged.Goals as goal

pub returns-in-Some-clause-merges : goal.returns-in-Some-clause-merges
returns-in-Some-clause-merges c = λ t u r l i e.
    let a = members_there t r c.args.left.now c.in-Some.members.now l c.in-Some.ensures.0 in
    let b = members_there u i c.args.right.now c.in-Some.others.now e c.in-Some.ensures.1 in
    subst (λ v. AppendsKey v c.merge_objects.result c.args.out.now c.merge_objects.new.out) (merged_objects t u a.ms b.ms a.is b.is) (c.merge_objects.ensures.merges a.ms b.ms a.readable b.readable a.occurs b.occurs)

pub returns-in-None-clause-merges : goal.returns-in-None-clause-merges
returns-in-None-clause-merges c = λ t u r l i e.
    subst (λ v. AppendsKey v c.join_items.result c.args.out.now c.join_items.new.out) (merged_items t u (λ ms ns is also. c.in-None.ensures ms ns (l ∙ ap key_of is) (e ∙ ap key_of also))) (c.join_items.ensures.joins t u r l i e)

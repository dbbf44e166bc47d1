use Rattle.std.proofs.Common.{[], Ok, Err, append-nil, sym, ap, subst, ◌∙◌}
use Rattle.key_value.proofs.Texts.{none_some}
use Rattle.jsonb_spec.specs.SortKey.{key_of}
use Rattle.jsonb_spec.specs.Tree.{object}
use Rattle.key_edit.proofs.Joined.{members_there}
use Rattle.key_document.specs.Changes.{Answers}
use Rattle.jsonb_spec.specs.Edit.LeftOut.{beside_names, without_names}
use Rattle.key_document.proofs.Answered.{error_stays, no_names}
use Rattle.key_document.proofs.Changing.{nothing_appended}
use Rattle.key_document.proofs.names.append_without_names.Goals as goal

pub returns-in_default-clause-answers : goal.returns-in_default-clause-answers
returns-in_default-clause-answers c = λ t r e u ru eu.
    nothing_appended (without_names u t) c.args.out.now
    (no_names u t (λ ms is. none_some _ (c.in_default.ensures.object ms [] (c.split_document-2.ensures.key u ru eu ∙ ap key_of is ∙ sym (append-nil (key_of (object ms)))))))

pub returns-in-Ok-clause-answers : goal.returns-in-Ok-clause-answers
returns-in-Ok-clause-answers c = λ t r e u ru eu.
    let x = members_there u ru _ c.in-Some.members.now (c.split_document-2.ensures.key u ru eu) c.in-Some.ensures.some in
    subst (λ w. Answers (without_names w t) (Ok c.in-Ok.changed) c.args.out.now c.write_document.new.out) (sym x.is)
    (c.in-Ok.ensures.answers x.ms x.readable x.occurs t r (c.split_document.ensures.key t r e) (c.split_document.ensures.zeros t r e))

pub returns-in-Err-clause-answers : goal.returns-in-Err-clause-answers
returns-in-Err-clause-answers c = λ t r e u ru eu.
    let x = members_there u ru _ c.in-Some.members.now (c.split_document-2.ensures.key u ru eu) c.in-Some.ensures.some in
    subst (λ w. Answers (without_names w t) (Err c.in-Err.error) c.args.out.now c.truncate.new.self) (sym x.is)
    (error_stays (beside_names x.ms t) c.in-Err.error c.args.out.now c.write_document.new.out c.truncate.new.self (c.in-Err.ensures.answers x.ms x.readable x.occurs t r (c.split_document.ensures.key t r e) (c.split_document.ensures.zeros t r e)))

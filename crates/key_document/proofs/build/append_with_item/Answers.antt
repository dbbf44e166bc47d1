use Rattle.std.proofs.Common.{◌≡◌, true, subst, sym, ◌∙◌}
use Rattle.jsonb_spec.specs.SortKey.{key_of}
use Rattle.jsonb_spec.specs.Edit.{set_to}
use Rattle.key_edit.specs.Spots.{FindsSlot, changed_end}
use Rattle.key_edit.proofs.Built.{item_set, set_always}
use Rattle.key_document.specs.Changes.{Answers}
use Rattle.key_document.proofs.Changing.{nothing_appended, set_puts}
use Rattle.key_document.proofs.Splicing.{end_splice}
use Rattle.key_document.proofs.build.append_with_item.Goals as goal

pub returns-in_default-clause-answers : goal.returns-in_default-clause-answers
returns-in_default-clause-answers c = λ t r e u ru eu.
    let none = subst (FindsSlot (λ change. changed_end change t) c.split_document.result.0.now) c.in_default.is (c.in_ok-slot.ensures.slot t r (c.split_document.ensures.key t r e)) in
    nothing_appended _ c.args.out.now (sym (item_set u t) ∙ none (set_to u true))

pub returns-clause-answers : goal.returns-clause-answers
returns-clause-answers c = λ t r e u ru eu.
    let key = c.split_document.result.0.now in
    let is_key : key ≡ key_of t = c.split_document.ensures.key t r e in
    let s = subst (FindsSlot (λ change. changed_end change t) key) c.in-Some.is (c.in_ok-slot.ensures.slot t r is_key) in
    subst (λ v. Answers v c.put_document.result c.args.out.now c.put_document.new.out) (item_set u t)
    (c.put_document.ensures.put t r is_key (c.split_document.ensures.zeros t r e) (λ change. changed_end change t) (end_splice t r.proper) s u ru eu (set_to u true) (set_puts u true) (set_always u s.0.there))

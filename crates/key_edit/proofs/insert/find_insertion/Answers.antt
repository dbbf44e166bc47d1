use Rattle.std.proofs.Common.{[], ◌∷◌, ◌++◌, Global, ap, map, string_bytes, subst, sym, ◌∙◌}
use Rattle.std.proofs.lemmas.List.{map-append}
use Rattle.jsonb_spec.specs.Edit.Insert.{changed_slot, changed_slot_at}
use Rattle.key_edit.proofs.Inserting.{last_within}
use Rattle.key_edit.proofs.Located.{Finds, ReportsWithin, inner_found, last_named, none_there}
use Rattle.key_edit.proofs.insert.find_insertion.Goals as goal

pub returns-in_default-2-clause-slot : goal.returns-in_default-2-clause-slot
returns-in_default-2-clause-slot c = λ t r e change.
    let before = map (string_bytes {Z = Global}) c.in-Some.before.now in
    let last = string_bytes {Z = Global} c.in-Some.name.now in
    let split = ap (map (string_bytes {Z = Global})) c.in-Some.ensures.cases.0 ∙ map-append (string_bytes {Z = Global}) c.in-Some.before.now (c.in-Some.name.now ∷ []) in
    let none = subst (ReportsWithin t before c.args.key.now) c.in_default-2.is (c.in_ok-bytes.ensures.found t r e) in
    ap (λ n. changed_slot_at change c.args.after n t) split ∙ none_there t before c.args.key.now (λ change. changed_slot change c.args.after last) (λ change. changed_slot_at change c.args.after (before ++ last ∷ []) t) (λ change. last_within change c.args.after before last t) none change

pub returns-clause-slot : goal.returns-clause-slot
returns-clause-slot c = λ t r e.
    let all = map (string_bytes {Z = Global}) c.args.names.now in
    let before = map (string_bytes {Z = Global}) c.in-Some.before.now in
    let last = c.as_str.result.now in
    let split = ap (map (string_bytes {Z = Global})) c.in-Some.ensures.cases.0 ∙ map-append (string_bytes {Z = Global}) c.in-Some.before.now (c.in-Some.name.now ∷ []) in
    let names = last_named all before (string_bytes c.in-Some.name.now) last split c.as_str.ensures.value in
    let x = subst (ReportsWithin t before c.args.key.now) c.in-Some-2.is (c.in_ok-bytes.ensures.found t r e) in
    let found = inner_found t before c.args.key.now (λ change. changed_slot change c.args.after last) (λ change. changed_slot_at change c.args.after (before ++ last ∷ []) t) (λ change. last_within change c.args.after before last t) c.in-Some-2.bytes.now c.in-Some-2.depth_left x c.insertion_in.result (c.insertion_in.ensures.slot x.part x.readable x.behind x.occurs x.fits) in
    subst (λ n. Finds (λ change. changed_slot_at change c.args.after n t) c.args.key.now c.insertion_in.result) (sym names) found

use Rattle.std.proofs.Common.{◌≡◌, map, string_bytes, subst}
use Rattle.jsonb_spec.specs.SortKey.{key_of}
use Rattle.jsonb_spec.specs.Edit.{becomes}
use Rattle.jsonb_spec.specs.Edit.Insert.{add, changed_slot_at, with_inserted, without_member}
use Rattle.key_document.proofs.Changing.{add_puts}
use Rattle.key_document.proofs.Inserting.{adds, inserted_err, inserted_ok, is_inserted, nowhere, present}
use Rattle.key_edit.specs.Spots.{FindsSlot}
use Rattle.key_document.proofs.Splicing.{slot_at_splice}
use Rattle.key_document.proofs.insert.append_with_inserted.Goals as goal

pub returns-in_default-clause-answers : goal.returns-in_default-clause-answers
returns-in_default-clause-answers c = λ t r e u ru eu.
    let names = map string_bytes c.args.names.now in
    let key = c.split_document.result.0.now in
    let none = subst (FindsSlot (λ change. changed_slot_at change c.args.after names t) key) c.in_default.is (c.in_ok-slot.ensures.slot t r (c.split_document.ensures.key t r e)) in
    nowhere names u t c.args.after c.args.out.now none

pub returns-then-slot-clause-answers : goal.returns-then-slot-clause-answers
returns-then-slot-clause-answers c = λ t r e u ru eu.
    let names = map string_bytes c.args.names.now in
    let key = c.split_document.result.0.now in
    let s = subst (FindsSlot (λ change. changed_slot_at change c.args.after names t) key) c.in-Some.is (c.in_ok-slot.ensures.slot t r (c.split_document.ensures.key t r e)) in
    present names u t c.args.after key c.in-Some.slot c.args.out.now s c.if-slot.true

pub returns-in-Ok-clause-answers : goal.returns-in-Ok-clause-answers
returns-in-Ok-clause-answers c = λ t r e u ru eu.
    let names = map string_bytes c.args.names.now in
    let key = c.split_document.result.0.now in
    let is_key : key ≡ key_of t = c.split_document.ensures.key t r e in
    let slot = c.in-Some.slot in
    let s = subst (FindsSlot (λ change. changed_slot_at change c.args.after names t) key) c.in-Some.is (c.in_ok-slot.ensures.slot t r is_key) in
    let set : add u s.0.there ≡ becomes u = adds u slot.object s.0.name s.0.behind slot s.0.there s.0.occurs c.if-slot.false in
    inserted_ok (with_inserted names u c.args.after t) (without_member names t) _ c.args.out.now c.put_document.new.out (is_inserted names u t c.args.after key slot s set)
    (c.in-Ok.ensures.put t r is_key (c.split_document.ensures.zeros t r e) (λ change. changed_slot_at change c.args.after names t) (slot_at_splice c.args.after names t r.proper) s u ru eu (add u) (add_puts u) set)

pub returns-in-Err-clause-answers : goal.returns-in-Err-clause-answers
returns-in-Err-clause-answers c = λ t r e u ru eu.
    let names = map string_bytes c.args.names.now in
    let key = c.split_document.result.0.now in
    let is_key : key ≡ key_of t = c.split_document.ensures.key t r e in
    let slot = c.in-Some.slot in
    let s = subst (FindsSlot (λ change. changed_slot_at change c.args.after names t) key) c.in-Some.is (c.in_ok-slot.ensures.slot t r is_key) in
    let set : add u s.0.there ≡ becomes u = adds u slot.object s.0.name s.0.behind slot s.0.there s.0.occurs c.if-slot.false in
    inserted_err (with_inserted names u c.args.after t) (without_member names t) c.in-Err.error c.args.out.now c.put_document.new.out (is_inserted names u t c.args.after key slot s set)
    (c.in-Err.ensures.put t r is_key (c.split_document.ensures.zeros t r e) (λ change. changed_slot_at change c.args.after names t) (slot_at_splice c.args.after names t r.proper) s u ru eu (add u) (add_puts u) set)

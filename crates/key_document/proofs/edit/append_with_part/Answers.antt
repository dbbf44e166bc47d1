use Rattle.std.proofs.Common.{◌≡◌, map, string_bytes, subst}
use Rattle.jsonb_spec.specs.SortKey.{key_of}
use Rattle.jsonb_spec.specs.Edit.{becomes, changed_at, set_to}
use Rattle.key_edit.specs.Spots.{FindsSlot}
use Rattle.key_edit.proofs.Putting.{set_made, set_there}
use Rattle.key_document.proofs.Changing.{set_puts}
use Rattle.key_document.proofs.Splicing.{at_splice}
use Rattle.key_document.proofs.edit.append_with_part.Goals as goal
use Rattle.key_document.proofs.edit.append_with_part.Goals.{else-not-slot-via-then-not-slot+else-not-create, else-not-slot-via-else-not-slot}

pub returns-clause-answers : goal.returns-clause-answers
returns-clause-answers c = λ t r e u ru eu.
    let names = map string_bytes c.args.names.now in
    let key = c.split_document.result.0.now in
    let is_key : key ≡ key_of t = c.split_document.ensures.key t r e in
    let slot = c.in-Some.slot in
    let s = subst (FindsSlot (λ change. changed_at change names t) key) c.in-Some.is (c.in_ok-slot.ensures.slot t r is_key) in
    let set : set_to u c.args.create s.0.there ≡ becomes u = elim c.else-not-slot.branch [
      | else-not-slot-via-then-not-slot+else-not-create w ↦ set_made u c.args.create s.0.there w.if-not-create.false
      | else-not-slot-via-else-not-slot w ↦ set_there slot.object s.0.name slot.spot s.0.behind u c.args.create s.0.there s.0.occurs w.if-not-slot.false
    ] in
    c.put_document.ensures.put t r is_key (c.split_document.ensures.zeros t r e) (λ change. changed_at change names t) (at_splice names t r.proper) s u ru eu (set_to u c.args.create) (set_puts u c.args.create) set

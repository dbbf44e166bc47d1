use Rattle.std.proofs.Common.{[], Global, eqb-true, Ok, append-nil, length, map, string_bytes, subst, sym, ◌∙◌}
use Rattle.std.proofs.lemmas.Bool.{eqb-false}
use Rattle.std.proofs.lemmas.List.{length-map}
use Rattle.jsonb_spec.specs.PartAt.{part_at}
use Rattle.jsonb_spec.specs.SortKey.{key_of}
use Rattle.key_walk.specs.Found.{Finds}
use Rattle.jsonb_spec.specs.Edit.{changed_at}
use Rattle.key_edit.specs.Spots.{FindsSlot}
use Rattle.key_document.proofs.Slots.{no_error, no_slot, none_found, part_there, slot_found, whole_found}
use Rattle.key_document.proofs.part.find_range.Goals as goal

pub returns-in_err-find_part : goal.returns-in_err-find_part
returns-in_err-find_part c = record { found = λ t r e. absurd (no_error c.args.key.now (part_at (map string_bytes c.args.names.now) t) _ (c.in_err-find_part.ensures.finds.found t r [] (e ∙ sym (append-nil (key_of t))))) }

pub returns-in_default : goal.returns-in_default
returns-in_default c = record { found = λ t r e. none_found t c.args.key.now (part_at (map string_bytes c.args.names.now) t) (subst (λ a. Finds c.args.key.now (part_at (map string_bytes c.args.names.now) t) (Ok a)) c.in_default.is (c.in_ok-find_part.ensures.finds.found t r [] (e ∙ sym (append-nil (key_of t))))) }

pub returns-then-is_empty : goal.returns-then-is_empty
returns-then-is_empty c = record { found = λ t r e. whole_found t (map string_bytes c.args.names.now) c.args.key r e (length-map c.args.names.now (string_bytes {Z = Global}) ∙ eqb-true (length c.args.names.now) 0 (sym c.is_empty.ensures ∙ c.if-is_empty.true)) }

pub returns-in_default-2 : goal.returns-in_default-2
returns-in_default-2 c = record {
  found = λ t r e.
      let names = map string_bytes c.args.names.now in
      let o = part_there c.args.key.now (part_at names t) _ (subst (λ a. Finds c.args.key.now (part_at names t) (Ok a)) c.in-Some.is (c.in_ok-find_part.ensures.finds.found t r [] (e ∙ sym (append-nil (key_of t))))) in
      absurd (no_slot t names o (λ none. eqb-false (length c.args.names.now) 0 (sym c.is_empty.ensures ∙ c.if-is_empty.false) (sym (length-map c.args.names.now (string_bytes {Z = Global})) ∙ none)) r (subst (FindsSlot (λ change. changed_at change names t) c.args.key.now) c.in_default-2.is (c.in_ok-slot.ensures.slot t r e)));
}

pub returns : goal.returns
returns c = record {
  found = λ t r e.
      let names = map string_bytes c.args.names.now in
      let o = part_there c.args.key.now (part_at names t) _ (subst (λ a. Finds c.args.key.now (part_at names t) (Ok a)) c.in-Some.is (c.in_ok-find_part.ensures.finds.found t r [] (e ∙ sym (append-nil (key_of t))))) in
      slot_found t names o c.args.key.now c.in-Some-2.slot c.saturating_sub-offset.result c.front.result (λ none. eqb-false (length c.args.names.now) 0 (sym c.is_empty.ensures ∙ c.if-is_empty.false) (sym (length-map c.args.names.now (string_bytes {Z = Global})) ∙ none)) r e (subst (FindsSlot (λ change. changed_at change names t) c.args.key.now) c.in-Some-2.is (c.in_ok-slot.ensures.slot t r e)) c.saturating_sub-offset.ensures c.front.ensures;
}

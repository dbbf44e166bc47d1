use Rattle.std.proofs.Common.{◌≡◌, ◌∷◌, [], IfSome, Ok, append-nil, arith, length, length-append, subst, sym, ap, ◌∙◌}
use Rattle.key_walk.specs.Found.{Opens}
use Rattle.jsonb_spec.specs.SortKey.Open.{opening_byte}
use Rattle.jsonb_spec.specs.SortKey.{key_of}
use Rattle.key_edit.specs.Merging.{keys_of_items}
use Rattle.key_edit.proofs.Built.{object_end, scalar_end}
use Rattle.key_edit.proofs.Inserting.{end_is, end_there}
use Rattle.key_edit.proofs.Joined.{items_end, items_there}
use Rattle.key_edit.proofs.slot.end_slot.Goals as goal

pub returns-in_err-object-clause-slot : goal.returns-in_err-object-clause-slot
returns-in_err-object-clause-slot c = λ t r e. absurd (c.in_err-object.ensures.opens t r [] (e ∙ sym (append-nil (key_of t))))

pub returns-in_default-clause-slot : goal.returns-in_default-clause-slot
returns-in_default-clause-slot c = λ t r e. scalar_end t (subst (λ answer. Opens t [] (Ok answer)) c.in_default.is (c.in_ok-object.ensures.opens t r [] (e ∙ sym (append-nil (key_of t)))))

pub returns-then-object-clause-slot : goal.returns-then-object-clause-slot
returns-then-object-clause-slot c = λ t r e.
    let begins = subst (λ answer. IfSome answer (λ parts. c.args.key.now ≡ opening_byte parts.0 ∷ parts.1.now)) c.in-Some.is c.in_ok-object.ensures.some in
    object_end c.args.key.now c.in-Some.items.now t e (subst (λ b. c.args.key.now ≡ opening_byte b ∷ c.in-Some.items.now) c.if-object.true begins)

pub returns-in_default-split_last-clause-slot : goal.returns-in_default-split_last-clause-slot
returns-in_default-split_last-clause-slot c = λ t r e.
    let begins = subst (λ answer. IfSome answer (λ parts. c.args.key.now ≡ opening_byte parts.0 ∷ parts.1.now)) c.in-Some.is c.in_ok-object.ensures.some in
    let x = items_there t r c.args.key.now c.in-Some.items.now e (subst (λ b. c.args.key.now ≡ opening_byte b ∷ c.in-Some.items.now) c.if-object.false begins) in
    absurd (omega (arith, ap length (x.occurs ∙ items_end x.ts), length-append (keys_of_items x.ts) (0 ∷ []), c.in_default-split_last.ensures.cases))

pub returns-clause-slot : goal.returns-clause-slot
returns-clause-slot c = λ t r e.
    let begins = subst (λ answer. IfSome answer (λ parts. c.args.key.now ≡ opening_byte parts.0 ∷ parts.1.now)) c.in-Some.is c.in_ok-object.ensures.some in
    let opened = subst (λ b. c.args.key.now ≡ opening_byte b ∷ c.in-Some.items.now) c.if-object.false begins in
    let x = items_there t r c.args.key.now c.in-Some.items.now e opened in
    let end = end_is (keys_of_items x.ts) c.in-Some-split_last.front.now c.in-Some.items.now c.split_at.result.1.now _ (x.occurs ∙ items_end x.ts) c.in-Some-split_last.ensures.cases.0 c.split_at.ensures.back in
    end_there t x.ts c.args.key.now c.in-Some.items.now c.split_at.result.1.now c.no_part.result x.whole x.within opened x.occurs end c.no_part.ensures.0 c.no_part.ensures.1

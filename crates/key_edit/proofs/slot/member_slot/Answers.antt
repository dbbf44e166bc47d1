use Rattle.std.proofs.Common.{◌≡◌, ◌∷◌, [], IfSome, Ok, append-nil, option_map, subst, sym, true, ◌∙◌}
use Rattle.key_walk.specs.Found.{Opens}
use Rattle.jsonb_spec.specs.SortKey.Open.{members, opening_byte}
use Rattle.jsonb_spec.specs.SortKey.{key_of, members_key}
use Rattle.jsonb_spec.specs.Tree.{object}
use Rattle.jsonb_spec.specs.Edit.{changed_member}
use Rattle.key_edit.specs.Spots.{SpotIn}
use Rattle.key_edit.proofs.Built.{MemberSpot, array_slot, object_spot, scalar_slot}
use Rattle.key_edit.proofs.Joined.{members_there}
use Rattle.key_edit.proofs.Spotted.{fits_in, key_before}
use Rattle.key_edit.proofs.slot.member_slot.Goals as goal

pub returns-in_err-object-clause-slot : goal.returns-in_err-object-clause-slot
returns-in_err-object-clause-slot c = λ t r e. absurd (c.in_err-object.ensures.opens t r [] (e ∙ sym (append-nil (key_of t))))

pub returns-in_default-clause-slot : goal.returns-in_default-clause-slot
returns-in_default-clause-slot c = λ t r e.
    scalar_slot c.args.name.now t (subst (λ answer. Opens t [] (Ok answer)) c.in_default.is (c.in_ok-object.ensures.opens t r [] (e ∙ sym (append-nil (key_of t)))))

pub returns-then-not-object-clause-slot : goal.returns-then-not-object-clause-slot
returns-then-not-object-clause-slot c = λ t r e.
    let begins = subst (λ answer. IfSome answer (λ parts. c.args.key.now ≡ opening_byte parts.0 ∷ parts.1.now)) c.in-Some.is c.in_ok-object.ensures.some in
    array_slot c.args.name.now c.args.key.now c.in-Some.members.now t e (subst (λ b. c.args.key.now ≡ opening_byte b ∷ c.in-Some.members.now) c.if-not-object.true begins)

pub returns-in_err-spot-clause-slot : goal.returns-in_err-spot-clause-slot
returns-in_err-spot-clause-slot c = λ t r e.
    let begins = subst (λ answer. IfSome answer (λ parts. c.args.key.now ≡ opening_byte parts.0 ∷ parts.1.now)) c.in-Some.is c.in_ok-object.ensures.some in
    let m = members_there t r c.args.key.now c.in-Some.members.now e (subst (λ b. c.args.key.now ≡ opening_byte b ∷ c.in-Some.members.now) c.if-not-object.false begins) in
    absurd (c.in_err-spot.ensures.spot m.ms m.readable.proper m.readable.within [] (m.occurs ∙ sym (append-nil (members_key m.ms))) 511 m.readable.within)

pub returns-in_err-behind-clause-slot : goal.returns-in_err-behind-clause-slot
returns-in_err-behind-clause-slot c = λ t r e.
    let begins = subst (λ answer. IfSome answer (λ parts. c.args.key.now ≡ opening_byte parts.0 ∷ parts.1.now)) c.in-Some.is c.in_ok-object.ensures.some in
    let m = members_there t r c.args.key.now c.in-Some.members.now e (subst (λ b. c.args.key.now ≡ opening_byte b ∷ c.in-Some.members.now) c.if-not-object.false begins) in
    let s = c.in_ok-spot.ensures.spot m.ms m.readable.proper m.readable.within [] (m.occurs ∙ sym (append-nil (members_key m.ms))) 511 m.readable.within in
    absurd (c.in_err-behind.ensures.behind true s.name s.behind s.there s.readable s.occurs)

pub returns-clause-slot : goal.returns-clause-slot
returns-clause-slot c = λ t r e.
    let begins = subst (λ answer. IfSome answer (λ parts. c.args.key.now ≡ opening_byte parts.0 ∷ parts.1.now)) c.in-Some.is c.in_ok-object.ensures.some in
    let opened = subst (λ b. c.args.key.now ≡ opening_byte b ∷ c.in-Some.members.now) c.if-not-object.false begins in
    let m = members_there t r c.args.key.now c.in-Some.members.now e opened in
    let near = c.in_ok-spot.ensures.spot m.ms m.readable.proper m.readable.within [] (m.occurs ∙ sym (append-nil (members_key m.ms))) 511 m.readable.within in
    let named = subst (λ n. SpotIn (key_before []) (fits_in 511) (λ change. option_map members (changed_member change n m.ms)) true n c.in-Some.members.now 511 c.in_ok-spot.spot) c.as_bytes.ensures.value near in
    let s = object_spot c.args.name.now c.args.key.now c.in-Some.members.now m.ms c.in_ok-spot.spot opened named in
    let behind = c.in_ok-behind.ensures.behind true s.name s.behind s.there s.readable s.occurs in
    let spot : MemberSpot (object m.ms) c.args.name.now c.args.key.now c.in_ok-spot.spot c.in_ok-behind.behind.now = (s, sym behind) in
    subst (λ u. MemberSpot u c.args.name.now c.args.key.now c.in_ok-spot.spot c.in_ok-behind.behind.now) (sym m.is) spot

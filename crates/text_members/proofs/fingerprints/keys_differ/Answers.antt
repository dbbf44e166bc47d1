use Rattle.std.proofs.Common.{refl, subst, sym}
use Rattle.text_members.specs.Fingerprints.{IsIn, home_of, tag_of}
use Rattle.text_members.proofs.DifferentKeys.{finish, step}
use Rattle.text_members.proofs.fingerprints.keys_differ.Goals as goal

pub members-preserved : goal.members-preserved
members-preserved c =
    let keys = c.args.keys.now in
    let bits = c.min-bits.result in
    let number = c.fingerprint-number.result in
    let before = c.members.row in
    let after = c.put.new.row in
    step bits keys.text.now keys.decoded.now keys.members.now before after c.in-Some.member.now c.members.rest.now c.in-Some.others.now c.in-Some.ensures.cases.0 (c.if-not-put.ensures.retained refl)
    (subst (λ n. IsIn after (home_of bits n) (tag_of n)) c.fingerprint-number.ensures (subst (λ home. IsIn after home (tag_of number)) c.home.ensures (subst (IsIn after c.home.result) c.tag.ensures (c.if-not-put.ensures.there refl))))
    (λ is.
    let here : IsIn before (home_of bits number) (tag_of number) = subst (λ n. IsIn before (home_of bits n) (tag_of n)) (sym c.fingerprint-number.ensures) is in
    c.if-not-put.ensures.new refl (subst (λ home. IsIn before home c.tag.result) (sym c.home.ensures) (subst (IsIn before (home_of bits number)) (sym c.tag.ensures) here)))
    c.members.invariant

pub returns : goal.returns
returns c = λ _ keyed. let keys = c.args.keys.now in finish c.min-bits.result keys.text.now keys.decoded.now keys.members.now c.members.row c.members.rest.now c.in_default.ensures.cases c.members.invariant keyed

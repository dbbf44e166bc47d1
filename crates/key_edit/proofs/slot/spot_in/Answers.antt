use Rattle.std.proofs.Common.{◌≡◌, ◌+◌, ◌∷◌, IfSome, MatchOption, None, Ok, Option, arith, subst}
use Rattle.key_walk.specs.Found.{Opens}
use Rattle.jsonb_spec.specs.SortKey.Open.{opening_byte}
use Rattle.jsonb_spec.specs.Tree.{Tree}
use Rattle.jsonb_spec.specs.Edit.{Outcome}
use Rattle.key_edit.specs.Spots.{changed_open}
use Rattle.key_edit.proofs.Located.{none_opened, opened_fits, opened_spot}
use Rattle.key_edit.proofs.Spotted.{LeftSpot}
use Rattle.key_edit.proofs.slot.spot_in.Goals as goal

pub returns-in_err-spot-clause-spot : goal.returns-in_err-spot-clause-spot
returns-in_err-spot-clause-spot c = λ t r more e w.
    let l = subst (λ answer. Opens t more (Ok answer)) c.in-Some.is (c.in_ok-object.ensures.opens t r more e) in
    let inner = c.in-Some-checked_sub.inner in
    let fits = opened_fits t c.in-Some.object c.in-Some.parts.now more c.args.depth_left inner l (omega (arith, c.in-Some-checked_sub.ensures)) w in
    absurd (c.in_err-spot.ensures.spot l.all l.is l.fits more l.occurs inner fits)

pub returns-in_default-2-clause-spot : goal.returns-in_default-2-clause-spot
returns-in_default-2-clause-spot c = λ t r more e w change.
    let l = subst (λ answer. Opens t more (Ok answer)) c.in-Some.is (c.in_ok-object.ensures.opens t r more e) in
    let inner = c.in-Some-checked_sub.inner in
    let one : inner + 1 ≡ c.args.depth_left = omega (arith, c.in-Some-checked_sub.ensures) in
    let fits = opened_fits t c.in-Some.object c.in-Some.parts.now more c.args.depth_left inner l one w in
    let none = subst (λ answer. MatchOption answer ((change : Option Tree → Outcome) → changed_open change c.args.name.now l.all ≡ None) (LeftSpot more inner (λ change. changed_open change c.args.name.now l.all) c.in-Some.object c.args.name.now c.in-Some.parts.now)) c.in_default-2.is (c.in_ok-spot.ensures.spot l.all l.is l.fits more l.occurs inner fits) in
    none_opened t c.in-Some.object c.in-Some.parts.now more c.args.depth_left inner l one change c.args.name.now (none change)

pub returns-clause-spot : goal.returns-clause-spot
returns-clause-spot c = λ t r more e w.
    let l = subst (λ answer. Opens t more (Ok answer)) c.in-Some.is (c.in_ok-object.ensures.opens t r more e) in
    let begins = subst (λ answer. IfSome answer (λ parts. c.args.bytes.now ≡ opening_byte parts.0 ∷ parts.1.now)) c.in-Some.is c.in_ok-object.ensures.some in
    let inner = c.in-Some-checked_sub.inner in
    let one : inner + 1 ≡ c.args.depth_left = omega (arith, c.in-Some-checked_sub.ensures) in
    let fits = opened_fits t c.in-Some.object c.in-Some.parts.now more c.args.depth_left inner l one w in
    let s = subst (λ answer. MatchOption answer ((change : Option Tree → Outcome) → changed_open change c.args.name.now l.all ≡ None) (LeftSpot more inner (λ change. changed_open change c.args.name.now l.all) c.in-Some.object c.args.name.now c.in-Some.parts.now)) c.in-Some-2.is (c.in_ok-spot.ensures.spot l.all l.is l.fits more l.occurs inner fits) in
    opened_spot t c.args.name.now c.args.bytes.now c.in-Some.parts.now more c.in-Some.object c.args.depth_left inner c.in-Some-2.spot l begins one s

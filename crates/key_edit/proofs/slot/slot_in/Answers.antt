use Rattle.std.proofs.Common.{subst, sym}
use Rattle.key_edit.proofs.Located.{ReportsSpot}
use Rattle.key_edit.proofs.slot.slot_in.Goals as goal

pub returns-in_default-clause-slot : goal.returns-in_default-clause-slot
returns-in_default-clause-slot c = λ t r more e w. subst (ReportsSpot t more c.args.name.now c.args.bytes.now c.args.depth_left) c.in_default.is (c.in_ok-spot.ensures.spot t r more e w)

pub returns-in_err-behind-clause-slot : goal.returns-in_err-behind-clause-slot
returns-in_err-behind-clause-slot c = λ t r more e w.
    let s = subst (ReportsSpot t more c.args.name.now c.args.bytes.now c.args.depth_left) c.in-Some.is (c.in_ok-spot.ensures.spot t r more e w) in
    absurd (c.in_err-behind.ensures.behind c.in-Some.object s.name s.behind s.there s.readable s.occurs)

pub returns-clause-slot : goal.returns-clause-slot
returns-clause-slot c = λ t r more e w.
    let s = subst (ReportsSpot t more c.args.name.now c.args.bytes.now c.args.depth_left) c.in-Some.is (c.in_ok-spot.ensures.spot t r more e w) in
    (s, sym (c.in_ok-behind.ensures.behind c.in-Some.object s.name s.behind s.there s.readable s.occurs))

use Rattle.std.proofs.Common.{◌≡◌, Bool, ℕ, false, suc, refl, subst, sym, ◌∙◌, arith}
use Rattle.jsonb_spec.specs.Tree.{array}
use Rattle.key_walk.proofs.Finds.{parent_of}
use Rattle.key_edit.proofs.Depths.{no_capacity_at}
use Rattle.key_edit.proofs.Inserting.{SlotOf, array_slot, opened_items, other_slot}
use Rattle.key_edit.proofs.insert.insertion_in.Goals as goal

pub returns-in_default-clause-slot : goal.returns-in_default-clause-slot
returns-in_default-clause-slot c = λ t r more e w. other_slot c.args.after c.args.name.now c.args.bytes.now more t c.args.depth_left c.slot_in.result c.in_default.ensures.array e (c.slot_in.ensures.slot t r more e w)

pub returns-in_default-checked_sub-clause-slot : goal.returns-in_default-checked_sub-clause-slot
returns-in_default-checked_sub-clause-slot c = λ t r more e w.
    let x = parent_of t r 0xD2 c.in-Some.items.now c.args.bytes.now more c.in-Some.ensures.some e false refl in
    absurd (no_capacity_at t x.open_there c.args.depth_left x.whole (omega (arith, c.in_default-checked_sub.ensures)) w)

pub returns-in_err-behind-clause-slot : goal.returns-in_err-behind-clause-slot
returns-in_err-behind-clause-slot c = λ t r more e w.
    let m = opened_items t c.args.bytes.now c.in-Some.items.now more c.args.depth_left c.in-Some-checked_sub.inner r e c.in-Some.ensures.some w (omega (arith, c.in-Some-checked_sub.ensures)) in
    absurd (c.in_err-behind.ensures.behind m.ts m.proper m.within more m.occurs)

pub returns-clause-slot : goal.returns-clause-slot
returns-clause-slot c = λ t r more e w.
    let inner = c.in-Some-checked_sub.inner in
    let step : Bool × ℕ = (c.in-Some-step_of.from_end, c.in-Some-step_of.number) in
    let spot = c.no_part.result in
    let behind = c.in_ok-behind.behind.now in
    let m = opened_items t c.args.bytes.now c.in-Some.items.now more c.args.depth_left inner r e c.in-Some.ensures.some w (omega (arith, c.in-Some-checked_sub.ensures)) in
    let slot = array_slot c.args.after c.args.name.now c.args.bytes.now c.in-Some.items.now behind more m.ts step inner spot m.fits c.in-Some.ensures.some m.occurs
    (sym c.step_of.ensures.named ∙ c.in-Some-step_of.is) (c.in_ok-behind.ensures.behind m.ts m.proper m.within more m.occurs) c.no_part.ensures.0 c.no_part.ensures.1 in
    let deep : suc inner ≡ c.args.depth_left = omega (arith, c.in-Some-checked_sub.ensures) in
    subst (λ u. SlotOf more c.args.depth_left c.args.after u false c.args.name.now c.args.bytes.now inner spot behind) m.whole
    (subst (λ d. SlotOf more d c.args.after (array m.ts) false c.args.name.now c.args.bytes.now inner spot behind) deep slot)

use Rattle.std.proofs.Common.{arith}
use Rattle.key_value.proofs.FirstBytes.{no_key}
use Rattle.key_walk.proofs.Finds.{parent_of}
use Rattle.key_edit.proofs.Depths.{no_capacity_at, reported_of_parts}
use Rattle.key_edit.proofs.fit.fits.Goals as goal

pub returns-in_default : goal.returns-in_default
returns-in_default c = λ t r more e. absurd (no_key 512 t r c.args.key.now more e c.in_default.ensures.cases)

pub returns-in-Some-checked_sub : goal.returns-in-Some-checked_sub
returns-in-Some-checked_sub c = λ t r more e.
    let x = parent_of t r c.in-Some.first.now c.in-Some.parts.now c.args.key.now more c.in-Some.ensures.cases.0 e c.in-Some-opening.object c.in-Some-opening.ensures in
    reported_of_parts t x.open_there c.in-Some-checked_sub.inner c.args.depth_left c.parts_fit.result x.whole (omega (arith, c.in-Some-checked_sub.ensures)) (c.parts_fit.ensures x.open_there x.is x.fits more x.occurs)

pub returns-in-None-checked_sub : goal.returns-in-None-checked_sub
returns-in-None-checked_sub c = λ t r more e.
    let x = parent_of t r c.in-Some.first.now c.in-Some.parts.now c.args.key.now more c.in-Some.ensures.cases.0 e c.in-Some-opening.object c.in-Some-opening.ensures in
    no_capacity_at t x.open_there c.args.depth_left x.whole (omega (arith, c.in-None-checked_sub.ensures))

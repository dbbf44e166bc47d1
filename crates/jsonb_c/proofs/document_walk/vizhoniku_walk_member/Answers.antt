use Rattle.std.proofs.Common.{ap, if◌then◌else◌, sym}
use Rattle.jsonb_c.proofs.DocumentWalk.{moves, never_moves, status_of}
use Rattle.jsonb_c.proofs.document_walk.vizhoniku_walk_member.Goals as goal

pub returns-in_default-clause-moved : goal.returns-in_default-clause-moved
returns-in_default-clause-moved c = λ t d opens w. absurd (never_moves t c.args.name.now opens _ c.args.walk.now c.move_to_member.new.walk (c.in_default.ensures.moved t d.readable d.is_document opens w))

pub returns-then-found-clause-moved : goal.returns-then-found-clause-moved
returns-then-found-clause-moved c = λ t d opens w.
    moves t c.args.name.now opens c.args.walk.now c.move_to_member.new.walk c.in-Ok.found 0 (ap status_of (sym c.if-found.true)) (c.in-Ok.ensures.moved t d.readable d.is_document opens w)

pub returns-else-found-clause-moved : goal.returns-else-found-clause-moved
returns-else-found-clause-moved c = λ t d opens w.
    moves t c.args.name.now opens c.args.walk.now c.move_to_member.new.walk c.in-Ok.found 5 (ap status_of (sym c.if-found.false)) (c.in-Ok.ensures.moved t d.readable d.is_document opens w)

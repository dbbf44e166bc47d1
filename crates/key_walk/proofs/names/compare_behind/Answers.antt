use Rattle.std.proofs.Common.{ap, ◌∙◌, arith}
use Rattle.jsonb_spec.specs.Order.{bytes_cmp}
use Rattle.key_walk.proofs.Fronts.{alike_behind, no_end_first, one_more}
use Rattle.key_walk.proofs.names.compare_behind.Goals as goal

pub returns-clause-compares : goal.returns-clause-compares
returns-clause-compares c =
    let alike = c.requires.same (omega (arith, c.if-low-gt0.false)) in
    let eighth = c.ends_plain.ensures c.if-not-ends_plain.false in
    alike_behind c.args.name.now c.args.bytes.now (one_more c.args.name.now 7 alike.plain eighth.1) eighth.0 (λ k. (c.type_inv.bytes k).fits) (λ k. (c.type_inv.name k).fits) alike.enough alike.same c.compare_by_front.result
    (λ text more e. c.compare_by_front.ensures.compares text more (c.split_at-2.ensures.back ∙ e) ∙ ap (λ l. bytes_cmp l text) c.split_at.ensures.back)

pub returns-clause-not_over : goal.returns-clause-not_over
returns-clause-not_over c = λ same tail e.
    let alike = c.requires.same (omega (arith, c.if-low-gt0.false)) in
    let eighth = c.ends_plain.ensures c.if-not-ends_plain.false in
    no_end_first c.args.name.now c.args.bytes.now (one_more c.args.name.now 7 alike.plain eighth.1) eighth.0 (λ k. (c.type_inv.bytes k).fits) (λ k. (c.type_inv.name k).fits) alike.enough alike.same tail e

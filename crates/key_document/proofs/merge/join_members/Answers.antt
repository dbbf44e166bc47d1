use Rattle.std.proofs.Common.{◌<◌, ◌^◌, ◌∷◌, length, ap, arith}
use Rattle.jsonb_spec.specs.Document.Counts.{counts_at_members}
use Rattle.key_text.proofs.Appending.{retained, preserves_on}
use Rattle.jsonb_spec.specs.Edit.{merged_members}
use Rattle.jsonb_spec.specs.Document.Zeros.{zeros_of}
use Rattle.key_text.proofs.Counts.{members_each}
use Rattle.key_document.proofs.Joining.{lacks_zeros}
use Rattle.key_document.proofs.MembersJoined.{ended, goes_on, join_begun, next}
use Rattle.key_document.proofs.merge.join_members.Goals as goal

pub returns-in_err-all-clause-joined : goal.returns-in_err-all-clause-joined
returns-in_err-all-clause-joined c = λ ms ns h i e f z w a b fit.
    absurd (c.in_err-all.ensures.found (0 ∷ counts_at_members ms) (omega (arith, a, ap length e, members_each ms h.proper)) z)

pub returns-in_err-ours-clause-joined : goal.returns-in_err-ours-clause-joined
returns-in_err-ours-clause-joined c = λ ms ns h i e f z w a b fit.
    let small : length (0 ∷ counts_at_members ms) < 2 ^ 63 = omega (arith, a, ap length e, members_each ms h.proper) in
    absurd (c.in_err-ours.ensures.found (0 ∷ counts_at_members ms) small (c.in_ok-all.ensures.found (0 ∷ counts_at_members ms) small z) (omega arith))

pub returns-in_err-other_all-clause-joined : goal.returns-in_err-other_all-clause-joined
returns-in_err-other_all-clause-joined c = λ ms ns h i e f z w a b fit.
    absurd (c.in_err-other_all.ensures.found (0 ∷ counts_at_members ns) (omega (arith, b, ap length f, members_each ns i.proper)) w)

pub returns-in_err-theirs-clause-joined : goal.returns-in_err-theirs-clause-joined
returns-in_err-theirs-clause-joined c = λ ms ns h i e f z w a b fit.
    let small : length (0 ∷ counts_at_members ns) < 2 ^ 63 = omega (arith, b, ap length f, members_each ns i.proper) in
    absurd (c.in_err-theirs.ensures.found (0 ∷ counts_at_members ns) small (c.in_ok-other_all.ensures.found (0 ∷ counts_at_members ns) small w) (omega arith))

pub members-init : goal.members-init
members-init c = record {
  joining = λ ms ns h i e f z w a b fit.
      let small : length (0 ∷ counts_at_members ms) < 2 ^ 63 = omega (arith, a, ap length e, members_each ms h.proper) in
      let other_small : length (0 ∷ counts_at_members ns) < 2 ^ 63 = omega (arith, b, ap length f, members_each ns i.proper) in
      join_begun ms ns c.args.out.now.items c.args.left.now c.args.right.now c.in_ok-ours.ours c.in_ok-theirs.theirs h i e f (omega (arith, small)) (omega (arith, other_small))
      (c.in_ok-ours.ensures.found (0 ∷ counts_at_members ms) small (c.in_ok-all.ensures.found (0 ∷ counts_at_members ms) small z) (omega arith))
      (c.in_ok-theirs.ensures.found (0 ∷ counts_at_members ns) other_small (c.in_ok-other_all.ensures.found (0 ∷ counts_at_members ns) other_small w) (omega arith));
  preserves = retained c.args.out.now;
}

pub returns-in_default-clause-joined : goal.returns-in_default-clause-joined
returns-in_default-clause-joined c = λ ms ns h i e f z w a b fit.
    let l = c.members.invariant.joining ms ns h i e f z w a b fit in
    absurd (c.in_default.ensures.step l.members l.others l.readable l.others_readable l.left_is l.right_is)

pub returns-in_err-merging-clause-joined : goal.returns-in_err-merging-clause-joined
returns-in_err-merging-clause-joined c = λ ms ns h i e f z w a b fit.
    let l = c.members.invariant.joining ms ns h i e f z w a b fit in
    let s = c.in-Ok.ensures.step l.members l.others l.readable l.others_readable l.left_is l.right_is in
    let n = next ms ns c.args.out.now.items c.members.out.items c.members.merging.plain c.members.merging.ours c.members.merging.theirs c.members.members.now c.members.others.now c.in-Ok.step c.replaced_by-replaced.result l s c.replaced_by-replaced.ensures fit in
    let x = c.in_err-merging.ensures.copied (counts_at_members l.members) (counts_at_members l.others) l.ours_pend l.theirs_pend n.enough n.part_enough n.xs_short n.ys_short n.fit in
    lacks_zeros c.from_residual-in_err-merging.result c.in_err-merging.field-0.0 c.args.out.now c.copy_step.new.out (zeros_of 1 (counts_at_members (merged_members ms ns))) (zeros_of 1 (counts_at_members (merged_members ms ns))) c.from_residual-in_err-merging.ensures.1 x.0
    (omega (arith, x.1, n.depth_left, c.members.invariant.preserves.capacity, c.args.out.now.ok.0, c.members.out.ok.0)) (omega arith)

pub returns-then-step-clause-joined : goal.returns-then-step-clause-joined
returns-then-step-clause-joined c = λ ms ns h i e f z w a b fit.
    let l = c.members.invariant.joining ms ns h i e f z w a b fit in
    let s = c.in-Ok.ensures.step l.members l.others l.readable l.others_readable l.left_is l.right_is in
    let n = next ms ns c.args.out.now.items c.members.out.items c.members.merging.plain c.members.merging.ours c.members.merging.theirs c.members.members.now c.members.others.now c.in-Ok.step c.replaced_by-replaced.result l s c.replaced_by-replaced.ensures fit in
    let x = c.in_ok-merging.ensures.copied (counts_at_members l.members) (counts_at_members l.others) l.ours_pend l.theirs_pend n.enough n.part_enough n.xs_short n.ys_short n.fit in
    ended ms ns c.args.out.now.items c.members.out.items c.members.merging.plain c.members.merging.ours c.members.merging.theirs c.members.members.now c.members.others.now c.in-Ok.step c.replaced_by-replaced.result l s c.replaced_by-replaced.ensures c.if-step.true c.copy_step.new.out.items x.0

pub members-preserved : goal.members-preserved
members-preserved c = record {
  joining = λ ms ns h i e f z w a b fit.
      let l = c.members.invariant.joining ms ns h i e f z w a b fit in
      let s = c.in-Ok.ensures.step l.members l.others l.readable l.others_readable l.left_is l.right_is in
      let n = next ms ns c.args.out.now.items c.members.out.items c.members.merging.plain c.members.merging.ours c.members.merging.theirs c.members.members.now c.members.others.now c.in-Ok.step c.replaced_by-replaced.result l s c.replaced_by-replaced.ensures fit in
      let x = c.in_ok-merging.ensures.copied (counts_at_members l.members) (counts_at_members l.others) l.ours_pend l.theirs_pend n.enough n.part_enough n.xs_short n.ys_short n.fit in
      goes_on ms ns c.args.out.now.items c.members.out.items c.members.merging.plain c.members.merging.ours c.members.merging.theirs c.members.members.now c.members.others.now c.in-Ok.step c.replaced_by-replaced.result l s c.replaced_by-replaced.ensures c.if-step.false c.copy_step.new.out.items c.in_ok-merging.merging.plain c.in_ok-merging.merging.ours c.in_ok-merging.merging.theirs x.0 x.1 x.2 x.3;
  preserves = preserves_on c.args.out.now c.members.out c.copy_step.new.out c.members.invariant.preserves c.in_ok-merging.ensures.preserves;
}

use Rattle.std.proofs.Common.{refl}
use Rattle.jsonb_spec.specs.SortKey.{key_of, members_key}
use Rattle.jsonb_spec.specs.Tree.{object}
use Rattle.jsonb_spec.specs.Document.Counts.{counts_at, counts_at_members}
use Rattle.key_text.proofs.Appending.{preserves_on, retained}
use Rattle.jsonb_spec.specs.Edit.LeftOut.{members_beside}
use Rattle.key_document.proofs.NamesLeft.{goes_wrong, here_is, last_answer, last_each, last_retains, members_begun, next_left, on, part_each, passed, ready}
use Rattle.key_document.proofs.names.write_members.Goals as goal

pub members-init : goal.members-init
members-init c = record { left = λ ms ns h i e f b. members_begun ms ns c.args.begun.now c.args.key.now c.args.names.now c.args.out.now.items h i e f b; preserves = retained c.args.out.now }

pub returns-in_default-clause-written : goal.returns-in_default-clause-written
returns-in_default-clause-written c = λ ms ns h i e f b.
    let l = c.members.invariant.left ms ns h i e f b in
    absurd (c.in_default.ensures.step l.members l.others l.readable l.others_readable l.left_is l.right_is)

pub returns-then-step-clause-written : goal.returns-then-step-clause-written
returns-then-step-clause-written c = λ ms ns h i e f b.
    let first = c.args.begun.now.output in
    let old = c.args.out.now.items in
    let v = object (members_beside ns ms) in
    let l = c.members.invariant.left ms ns h i e f b in
    let s = c.in-Ok.ensures.step l.members l.others l.readable l.others_readable l.left_is l.right_is in
    last_answer first ms ns c.members.retaining c.members.members.now c.members.others.now old c.members.out.items c.in-Ok.step l s c.if-step.true c.finish.result c.args.out.now c.members.out c.finish.new.out c.members.invariant.preserves.capacity
    (c.finish.ensures.finished first v c.members.members.now (counts_at_members l.members) old
    (last_each first ms ns c.members.retaining c.members.members.now c.members.others.now old c.members.out.items c.in-Ok.step l s c.if-step.true)
    (last_retains first ms ns c.members.retaining c.members.members.now c.members.others.now old c.members.out.items c.in-Ok.step l s c.if-step.true))

pub returns-in_err-retaining-clause-written : goal.returns-in_err-retaining-clause-written
returns-in_err-retaining-clause-written c = λ ms ns h i e f b.
    let first = c.args.begun.now.output in
    let old = c.args.out.now.items in
    let v = object (members_beside ns ms) in
    let l = c.members.invariant.left ms ns h i e f b in
    let s = c.in-Ok.ensures.step l.members l.others l.readable l.others_readable l.left_is l.right_is in
    let o = on first ms ns c.members.retaining c.members.members.now c.members.others.now old c.members.out.items c.in-Ok.step l s c.if-step.false c.is_longer-goes.result c.behind_run-rest.result.now c.behind_run-rest.ensures c.is_longer-goes.ensures in
    let p = passed first ms ns c.members.retaining c.members.members.now c.members.others.now old c.members.out.items c.in-Ok.step l s c.if-step.false c.is_longer-goes.result c.behind_run-rest.result.now c.behind_run-rest.ensures c.is_longer-goes.ensures in
    let y = c.in_err-retaining.ensures.passed first (key_of v) (counts_at v) p.0.one p.0.one_counts (counts_at_members o.members) (members_key (members_beside o.others o.members)) (counts_at_members (members_beside o.others o.members)) old
    (here_is first ms ns c.members.retaining c.members.members.now c.members.others.now old c.members.out.items c.in-Ok.step l s c.if-step.false c.is_longer-goes.result c.behind_run-rest.result.now c.behind_run-rest.ensures c.is_longer-goes.ensures)
    (part_each first ms ns c.members.retaining c.members.members.now c.members.others.now old c.members.out.items c.in-Ok.step l s c.if-step.false c.is_longer-goes.result c.behind_run-rest.result.now c.behind_run-rest.ensures c.is_longer-goes.ensures)
    (ready first ms ns c.members.retaining c.members.members.now c.members.others.now old c.members.out.items c.in-Ok.step l s c.if-step.false c.is_longer-goes.result c.behind_run-rest.result.now c.behind_run-rest.ensures c.is_longer-goes.ensures) in
    goes_wrong first ms ns c.members.retaining c.members.members.now c.members.others.now old c.members.out.items c.in-Ok.step l s c.if-step.false c.is_longer-goes.result c.behind_run-rest.result.now c.behind_run-rest.ensures c.is_longer-goes.ensures
    c.from_residual.result c.in_err-retaining.field-0.0 c.args.out.now c.members.out c.pass_bytes.new.out refl c.from_residual.ensures.1 c.members.invariant.preserves.capacity y

pub members-preserved : goal.members-preserved
members-preserved c = record {
  left = λ ms ns h i e f b.
      let first = c.args.begun.now.output in
      let old = c.args.out.now.items in
      let v = object (members_beside ns ms) in
      let l = c.members.invariant.left ms ns h i e f b in
      let s = c.in-Ok.ensures.step l.members l.others l.readable l.others_readable l.left_is l.right_is in
      let o = on first ms ns c.members.retaining c.members.members.now c.members.others.now old c.members.out.items c.in-Ok.step l s c.if-step.false c.is_longer-goes.result c.behind_run-rest.result.now c.behind_run-rest.ensures c.is_longer-goes.ensures in
      let p = passed first ms ns c.members.retaining c.members.members.now c.members.others.now old c.members.out.items c.in-Ok.step l s c.if-step.false c.is_longer-goes.result c.behind_run-rest.result.now c.behind_run-rest.ensures c.is_longer-goes.ensures in
      let y = c.in_ok-retaining.ensures.passed first (key_of v) (counts_at v) p.0.one p.0.one_counts (counts_at_members o.members) (members_key (members_beside o.others o.members)) (counts_at_members (members_beside o.others o.members)) old
      (here_is first ms ns c.members.retaining c.members.members.now c.members.others.now old c.members.out.items c.in-Ok.step l s c.if-step.false c.is_longer-goes.result c.behind_run-rest.result.now c.behind_run-rest.ensures c.is_longer-goes.ensures)
      (part_each first ms ns c.members.retaining c.members.members.now c.members.others.now old c.members.out.items c.in-Ok.step l s c.if-step.false c.is_longer-goes.result c.behind_run-rest.result.now c.behind_run-rest.ensures c.is_longer-goes.ensures)
      (ready first ms ns c.members.retaining c.members.members.now c.members.others.now old c.members.out.items c.in-Ok.step l s c.if-step.false c.is_longer-goes.result c.behind_run-rest.result.now c.behind_run-rest.ensures c.is_longer-goes.ensures) in
      next_left first ms ns c.members.retaining c.members.members.now c.members.others.now old c.members.out.items c.in-Ok.step l s c.if-step.false c.is_longer-goes.result c.behind_run-rest.result.now c.behind_run-rest.ensures c.is_longer-goes.ensures c.in_ok-retaining.retaining c.pass_bytes.new.out.items y;
  preserves = preserves_on c.args.out.now c.members.out c.pass_bytes.new.out c.members.invariant.preserves c.in_ok-retaining.ensures.preserves;
}

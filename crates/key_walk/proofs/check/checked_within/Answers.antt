use Rattle.std.proofs.Common.{arith, set, subst, sym}
use Rattle.std.proofs.lemmas.List.{get_or-set_same, length-set}
use Rattle.key_walk.specs.Frames.{IsFrame, PartsFirst, new_frame}
use Rattle.key_walk.proofs.Checks.{never, exactly}
use Rattle.key_walk.proofs.Stacked.{begun, all_passed, end_step, name_step, no_name_step, none_due, none_deeper, opened_next, scalar_step, no_scalar_step}
use Rattle.key_walk.proofs.check.checked_within.Goals as goal

pub parts-init : goal.parts-init
parts-init c = record {
  parts = begun c.args.object c.args.bytes.now (set c.args.frames.now 0 c.new_frame.result) (subst (IsFrame c.args.bytes.now (new_frame c.args.object)) (sym (get_or-set_same c.args.frames.now 0 c.new_frame.result 0 c.requires.some)) (c.new_frame.ensures c.args.bytes.now));
  deep = simp length-set c.requires.some;
  few = simp length-set c.requires.few;
  size = length-set c.args.frames.now 0 c.new_frame.result;
}

pub returns-in_default-clause-checked : goal.returns-in_default-clause-checked
returns-in_default-clause-checked c =
    exactly (PartsFirst c.args.object c.args.bytes.now) c.parts.rest.now (all_passed c.args.object c.args.bytes.now c.parts.frames c.parts.depth c.parts.rest.now (omega (arith, c.in_default.ensures)) c.parts.invariant.parts)

pub parts-preserved-in-Some-after_end : goal.parts-preserved-in-Some-after_end
parts-preserved-in-Some-after_end c = record {
  parts = end_step c.args.object c.args.bytes.now c.parts.frames c.parts.depth c.in-Some.top c.frame_at-last.result c.parts.rest.now c.is_object.result (omega (arith, c.in-Some.ensures)) c.parts.invariant.parts c.frame_at-last.ensures c.is_object.ensures c.in-Some-after_end.others.now c.in-Some-after_end.ensures.some;
  deep = omega (arith, c.parts.invariant.deep, c.in-Some.ensures);
  few = c.parts.invariant.few;
  size = c.parts.invariant.size;
}

pub returns-in_default-checked_name-clause-checked : goal.returns-in_default-checked_name-clause-checked
returns-in_default-checked_name-clause-checked c =
    never (PartsFirst c.args.object c.args.bytes.now) (no_name_step c.args.object c.args.bytes.now c.parts.frames c.parts.depth c.in-Some.top c.frame_at-last.result c.parts.rest.now c.is_object.result (omega (arith, c.in-Some.ensures)) c.parts.invariant.parts c.frame_at-last.ensures c.is_object.ensures c.in_default-after_end.ensures.found c.in_default-checked_name.ensures.found)

pub returns-in_default-split_first-clause-checked : goal.returns-in_default-split_first-clause-checked
returns-in_default-split_first-clause-checked c =
    let due = name_step c.args.object c.args.bytes.now c.parts.frames c.parts.depth c.in-Some.top c.frame_at-last.result c.parts.rest.now c.is_object.result (omega (arith, c.in-Some.ensures)) c.parts.invariant.parts c.frame_at-last.ensures c.is_object.ensures c.in-Some-checked_name.value.now c.with_name.result c.in_default-after_end.ensures.found (omega (arith, c.in-Some.ensures, c.parts.invariant.deep, c.parts.invariant.size)) c.in-Some-checked_name.ensures.found c.with_name.ensures in
    never (PartsFirst c.args.object c.args.bytes.now) (none_due c.args.object c.args.bytes.now (set c.parts.frames c.in-Some.top c.with_name.result) c.parts.depth c.in-Some-checked_name.value.now due c.in_default-split_first.ensures.cases)

pub returns-then-depth-eq-MAX_DEPTH-clause-checked : goal.returns-then-depth-eq-MAX_DEPTH-clause-checked
returns-then-depth-eq-MAX_DEPTH-clause-checked c =
    let due = name_step c.args.object c.args.bytes.now c.parts.frames c.parts.depth c.in-Some.top c.frame_at-last.result c.parts.rest.now c.is_object.result (omega (arith, c.in-Some.ensures)) c.parts.invariant.parts c.frame_at-last.ensures c.is_object.ensures c.in-Some-checked_name.value.now c.with_name.result c.in_default-after_end.ensures.found (omega (arith, c.in-Some.ensures, c.parts.invariant.deep, c.parts.invariant.size)) c.in-Some-checked_name.ensures.found c.with_name.ensures in
    never (PartsFirst c.args.object c.args.bytes.now)
    (none_deeper c.args.object c.args.bytes.now (set c.parts.frames c.in-Some.top c.with_name.result) c.parts.depth c.in-Some-split_first.first.now c.in-Some-opening.inner c.in-Some-checked_name.value.now c.in-Some-split_first.others.now due c.in-Some-split_first.ensures.cases.0 c.in-Some-opening.ensures c.if-depth-eq-MAX_DEPTH.true)

pub parts-smaller-in-Some-opening : goal.parts-smaller-in-Some-opening
parts-smaller-in-Some-opening c = omega (arith, c.in-Some-split_first.ensures.cases.1, c.in-Some-checked_name.ensures.within)

pub parts-preserved-in-Some-opening : goal.parts-preserved-in-Some-opening
parts-preserved-in-Some-opening c = record {
  parts =
      let due = name_step c.args.object c.args.bytes.now c.parts.frames c.parts.depth c.in-Some.top c.frame_at-last.result c.parts.rest.now c.is_object.result (omega (arith, c.in-Some.ensures)) c.parts.invariant.parts c.frame_at-last.ensures c.is_object.ensures c.in-Some-checked_name.value.now c.with_name.result c.in_default-after_end.ensures.found (omega (arith, c.in-Some.ensures, c.parts.invariant.deep, c.parts.invariant.size)) c.in-Some-checked_name.ensures.found c.with_name.ensures in
      opened_next c.args.object c.args.bytes.now (set c.parts.frames c.in-Some.top c.with_name.result) c.parts.depth c.in-Some-split_first.first.now c.new_frame-in-Some-opening.result c.in-Some-opening.inner c.in-Some-checked_name.value.now c.in-Some-split_first.others.now due c.in-Some-split_first.ensures.cases.0 c.in-Some-opening.ensures
      (omega (arith, c.parts.invariant.deep, c.parts.invariant.few, c.if-depth-eq-MAX_DEPTH.false)) (simp length-set (omega (arith, c.parts.invariant.deep, c.if-depth-frames.false, length-set c.parts.frames c.in-Some.top c.with_name.result))) (c.new_frame-in-Some-opening.ensures c.args.bytes.now);
  deep = simp length-set (omega (arith, c.parts.invariant.deep, c.if-depth-frames.false, length-set c.parts.frames c.in-Some.top c.with_name.result));
  few = simp length-set c.parts.invariant.few;
  size = simp length-set c.parts.invariant.size;
}

pub returns-in_default-checked_scalar-clause-checked : goal.returns-in_default-checked_scalar-clause-checked
returns-in_default-checked_scalar-clause-checked c =
    let due = name_step c.args.object c.args.bytes.now c.parts.frames c.parts.depth c.in-Some.top c.frame_at-last.result c.parts.rest.now c.is_object.result (omega (arith, c.in-Some.ensures)) c.parts.invariant.parts c.frame_at-last.ensures c.is_object.ensures c.in-Some-checked_name.value.now c.with_name.result c.in_default-after_end.ensures.found (omega (arith, c.in-Some.ensures, c.parts.invariant.deep, c.parts.invariant.size)) c.in-Some-checked_name.ensures.found c.with_name.ensures in
    never (PartsFirst c.args.object c.args.bytes.now)
    (no_scalar_step c.args.object c.args.bytes.now (set c.parts.frames c.in-Some.top c.with_name.result) c.parts.depth c.in-Some-split_first.first.now c.in-Some-checked_name.value.now c.in-Some-split_first.others.now due c.in-Some-split_first.ensures.cases.0 (c.in-None.ensures.0, c.in-None.ensures.1) c.in_default-checked_scalar.ensures.checks.found)

pub parts-smaller : goal.parts-smaller
parts-smaller c = omega (arith, c.in-Some-checked_scalar.ensures.checks.shorter, c.in-Some-checked_name.ensures.within)

pub parts-preserved : goal.parts-preserved
parts-preserved c = record {
  parts =
      let due = name_step c.args.object c.args.bytes.now c.parts.frames c.parts.depth c.in-Some.top c.frame_at-last.result c.parts.rest.now c.is_object.result (omega (arith, c.in-Some.ensures)) c.parts.invariant.parts c.frame_at-last.ensures c.is_object.ensures c.in-Some-checked_name.value.now c.with_name.result c.in_default-after_end.ensures.found (omega (arith, c.in-Some.ensures, c.parts.invariant.deep, c.parts.invariant.size)) c.in-Some-checked_name.ensures.found c.with_name.ensures in
      scalar_step c.args.object c.args.bytes.now (set c.parts.frames c.in-Some.top c.with_name.result) c.parts.depth c.in-Some-split_first.first.now c.in-Some-checked_name.value.now c.in-Some-split_first.others.now c.in-Some-checked_scalar.others.now due c.in-Some-split_first.ensures.cases.0 (c.in-None.ensures.0, c.in-None.ensures.1) c.in-Some-checked_scalar.ensures.checks.found;
  deep = simp length-set c.parts.invariant.deep;
  few = simp length-set c.parts.invariant.few;
  size = simp length-set c.parts.invariant.size;
}

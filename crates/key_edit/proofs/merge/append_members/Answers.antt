use Rattle.std.proofs.Common.{◌++◌, ap, append_assoc, sym, ◌∙◌, arith}
use Rattle.key_edit.proofs.Merged.{both_appended, both_lacking, merge_ended, merge_goes_on, merge_longer, merged_within}
use Rattle.key_edit.proofs.merge.append_members.Goals as goal

pub returns-in_default-clause-merges : goal.returns-in_default-clause-merges
returns-in_default-clause-merges c = λ ms ns h i e f.
    let l = c.members.invariant.walks ms ns h i e f in
    absurd (c.in_default.ensures.step l.members l.others l.readable l.others_readable l.left_is l.right_is)

pub returns-then-is_err-2-clause-merges : goal.returns-then-is_err-2-clause-merges
returns-then-is_err-2-clause-merges c = λ ms ns h i e f.
    let l = c.members.invariant.walks ms ns h i e f in
    let step = c.in-Ok.ensures.step l.members l.others l.readable l.others_readable l.left_is l.right_is in
    let longer = merge_longer ms ns c.args.out.now.items c.members.out.items c.members.members.now c.members.others.now c.in-Ok.step l step in
    let full = both_lacking c.append_both.result c.members.out c.append_both.new.out (c.in-Ok.step.run.now ++ c.in-Ok.step.part.now) (sym c.is_err-in-members.ensures.value ∙ c.if-is_err-2.true) c.append_both.ensures.appends in
    record { ok = tt; fits = tt; errors = omega (arith, longer, full, c.members.invariant.capacity) }

pub returns-then-step-clause-merges : goal.returns-then-step-clause-merges
returns-then-step-clause-merges c = λ ms ns h i e f.
    let l = c.members.invariant.walks ms ns h i e f in
    let step = c.in-Ok.ensures.step l.members l.others l.readable l.others_readable l.left_is l.right_is in
    let done = both_appended c.append_both.result c.members.out c.append_both.new.out (c.in-Ok.step.run.now ++ c.in-Ok.step.part.now) (sym c.is_err-in-members.ensures.value ∙ c.if-is_err-2.false) c.append_both.ensures.appends in
    record {
      ok = merge_ended ms ns c.args.out.now.items c.members.out.items c.members.members.now c.members.others.now c.append_both.new.out.items c.in-Ok.step l c.if-step.true step done;
      fits = merged_within ms ns 511 h.within i.within;
      errors = tt;
    }

pub members-preserved : goal.members-preserved
members-preserved c =
    let done = both_appended c.append_both.result c.members.out c.append_both.new.out (c.in-Ok.step.run.now ++ c.in-Ok.step.part.now) (sym c.is_err-in-members.ensures.value ∙ c.if-is_err-2.false) c.append_both.ensures.appends in
    record {
      walks = λ ms ns h i e f.
          let l = c.members.invariant.walks ms ns h i e f in
          let step = c.in-Ok.ensures.step l.members l.others l.readable l.others_readable l.left_is l.right_is in
          merge_goes_on ms ns c.args.out.now.items c.members.out.items c.members.members.now c.members.others.now c.append_both.new.out.items c.in-Ok.step l c.if-step.false step done;
      retained = record {
        more = c.members.invariant.retained.more ++ (c.in-Ok.step.run.now ++ c.in-Ok.step.part.now);
        extended = done ∙ ap (λ o. o ++ (c.in-Ok.step.run.now ++ c.in-Ok.step.part.now)) c.members.invariant.retained.extended ∙ append_assoc c.args.out.now.items c.members.invariant.retained.more (c.in-Ok.step.run.now ++ c.in-Ok.step.part.now);
      };
      capacity = omega (arith, c.members.invariant.capacity, c.append_both.ensures.appends.capacity);
    }

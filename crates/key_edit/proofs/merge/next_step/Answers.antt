use Rattle.std.proofs.Common.{ap, subst, ◌∙◌}
use Rattle.key_value.proofs.Texts.{none_some, some_same}
use Rattle.jsonb_spec.specs.SortKey.Checked.{HaveReadable}
use Rattle.jsonb_spec.specs.SortKey.{members_key}
use Rattle.key_edit.proofs.Merged.{first_bytes, first_readable, is_above, is_next, is_same, others_readable, part_bytes, run_bytes, steps_above, steps_same}
use Rattle.key_edit.proofs.merge.next_step.Goals as goal

pub returns-in_default-clause-step : goal.returns-in_default-clause-step
returns-in_default-clause-step c = λ ms ns h i l name t others is r.
    let p = c.in_ok-passed.ensures.passed ms h name _ l (r ∙ ap members_key is) in
    absurd (none_some _ (c.in_default.ensures.found t (first_readable name t others (subst HaveReadable is i)) _ p.1))

pub returns-in_err-others-clause-step : goal.returns-in_err-others-clause-step
returns-in_err-others-clause-step c = λ ms ns h i l name t others is r.
    let p = c.in_ok-passed.ensures.passed ms h name _ l (r ∙ ap members_key is) in
    let first = some_same c.in-Some.first.now _ (c.in-Some.ensures.found t (first_readable name t others (subst HaveReadable is i)) _ p.1) in
    absurd (c.in_err-others.ensures.passed others p.0.others (others_readable ms ns name t others i is) p.0.readable first p.0.rest_is)

pub returns-in_default-same-clause-step : goal.returns-in_default-same-clause-step
returns-in_default-same-clause-step c = λ ms ns h i l name t others is r.
    let p = c.in_ok-passed.ensures.passed ms h name _ l (r ∙ ap members_key is) in
    let first = some_same c.in-Some.first.now _ (c.in-Some.ensures.found t (first_readable name t others (subst HaveReadable is i)) _ p.1) in
    let more = c.in_ok-others.ensures.passed others p.0.others (others_readable ms ns name t others i is) p.0.readable first p.0.rest_is in
    is_next ms ns c.step_to.result (
      c.step_to.ensures.left.2,
      steps_above ms ns name t others i is c.step_to.result c.in_ok-passed.passed c.in_ok-others.others.now p.0 (is_above ms name c.in_ok-passed.passed p.0 c.in_default-same.is) more
          (c.step_to.ensures.run _ (run_bytes ms c.args.left.now c.in_ok-passed.passed.rest.now p.0.below p.0.others l p.0.is p.0.rest_is))
          (c.step_to.ensures.part _ (part_bytes ms ns name t others i is c.args.right.now c.in_ok-others.others.now r (more.first, more.left, more.is, more.rest_is)))
          c.step_to.ensures.left.0 c.step_to.ensures.left.1,
    )

pub returns-in_default-after_key-clause-step : goal.returns-in_default-after_key-clause-step
returns-in_default-after_key-clause-step c = λ ms ns h i l name t others is r.
    let p = c.in_ok-passed.ensures.passed ms h name _ l (r ∙ ap members_key is) in
    let same = is_same ms name c.in_ok-passed.passed c.in-Some-same.replaced p.0 c.in-Some-same.is in
    absurd (none_some _ (c.in_default-after_key.ensures.found same.0 (first_readable name same.0 same.1 (subst HaveReadable same.2 p.0.readable)) _ same.3))

pub returns-clause-step : goal.returns-clause-step
returns-clause-step c = λ ms ns h i l name t others is r.
    let p = c.in_ok-passed.ensures.passed ms h name _ l (r ∙ ap members_key is) in
    let first = some_same c.in-Some.first.now _ (c.in-Some.ensures.found t (first_readable name t others (subst HaveReadable is i)) _ p.1) in
    let same = is_same ms name c.in_ok-passed.passed c.in-Some-same.replaced p.0 c.in-Some-same.is in
    let members = some_same c.in-Some-after_key.members.now _ (c.in-Some-after_key.ensures.found same.0 (first_readable name same.0 same.1 (subst HaveReadable same.2 p.0.readable)) _ same.3) in
    is_next ms ns c.step_to-2.result (
      c.step_to-2.ensures.left.2,
      steps_same ms ns name t others i is c.step_to-2.result c.in_ok-passed.passed p.0 same.0 same.1 same.2
          (c.step_to-2.ensures.run _ (run_bytes ms c.args.left.now c.in_ok-passed.passed.rest.now p.0.below p.0.others l p.0.is p.0.rest_is))
          (c.step_to-2.ensures.part _ (first_bytes ms ns name t others i is c.args.right.now c.in-Some.first.now r first))
          (c.step_to-2.ensures.left.0 ∙ members) (c.step_to-2.ensures.left.1 ∙ first),
    )

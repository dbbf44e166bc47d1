use Rattle.std.proofs.Common.{[], length, refl, subst, sym, ap, ◌∙◌, arith, append-nil, eq-eqb, eqb-true}
use Rattle.jsonb_spec.specs.SortKey.{key_of}
use Rattle.key_value.proofs.FirstBytes.{no_key}
use Rattle.jsonb_spec.specs.SortKey.Open.{open_key}
use Rattle.key_walk.proofs.Scalars.{opened_at_top, scalar_there}
use Rattle.key_zeros.proofs.Counting.{scalar_numbers}
use Rattle.key_walk.proofs.Stepping.{opening_there}
use Rattle.key_document.specs.Check.{Fits, most_at, most_open}
use Rattle.key_document.proofs.Checked.{refused}
use Rattle.key_document.proofs.Fitting.{most_each, none_left, none_passed, opened_most}
use Rattle.key_document.proofs.check.zeros_fit.Goals as goal

pub returns-in_default : goal.returns-in_default
returns-in_default c = λ t r e. refused (c.in_default.ensures.fits (omega arith) (most_at t) (most_each t r.proper ∙ ap length (sym e)))

pub returns-then-due-eq0 : goal.returns-then-due-eq0
returns-then-due-eq0 c = λ t r e.
    let due = c.in-Ok.ensures.fits (omega arith) (most_at t) (most_each t r.proper ∙ ap length (sym e)) in
    (λ yes. due.0 (none_left c.in-Ok.due.at c.in-Ok.due.count c.in-Ok.due.entries.now c.if-due-eq0.true (most_at t)), λ z. refl)

pub returns-in_default-split_first : goal.returns-in_default-split_first
returns-in_default-split_first c = λ t r e. absurd (no_key 512 t r c.args.key.now [] (e ∙ sym (append-nil (key_of t))) c.in_default-split_first.ensures.cases)

pub returns-in-Some-opening : goal.returns-in-Some-opening
returns-in-Some-opening c = λ t r e.
    let due = c.in-Ok.ensures.fits (omega arith) (most_at t) (most_each t r.proper ∙ ap length (sym e)) in
    let x = opening_there 512 t r c.in-Some.first.now c.in-Some.parts.now c.args.key.now [] c.in-Some.ensures.cases.0 (e ∙ sym (append-nil (key_of t))) c.in-Some-opening.object c.in-Some-opening.ensures in
    let fit = c.parts_fit.ensures x.inside x.is (opened_at_top x.inside x.inner x.deeper x.fits) (x.occurs ∙ append-nil (open_key x.inside)) c.in-Ok.ensures.counted in
    let passed = none_passed c.in-Ok.due.at c.in-Ok.due.count c.in-Ok.due.entries.now 1 (most_open x.inside) in
    let is = ap most_at x.whole ∙ opened_most x.inside in
    (λ yes. due.0 (subst (λ l. Fits c.in-Ok.due l) (sym is) (passed.0 (fit.0 yes))), λ z. fit.1 (passed.1 (subst (λ l. Fits c.in-Ok.due l) is (due.1 z))))

pub returns-in-Some-pass_scalar : goal.returns-in-Some-pass_scalar
returns-in-Some-pass_scalar c = λ t r e.
    let due = c.in-Ok.ensures.fits (omega arith) (most_at t) (most_each t r.proper ∙ ap length (sym e)) in
    let occurs = e ∙ sym (append-nil (key_of t)) in
    let scalar = scalar_there 512 t r c.in-Some.first.now c.in-Some.parts.now c.args.key.now [] c.in-Some.ensures.cases.0 occurs c.in-None.ensures.0 c.in-None.ensures.1 in
    let count = scalar_numbers 512 t r scalar c.in-Some.first.now c.in-Some.parts.now c.args.key.now [] c.in-Some.ensures.cases.0 occurs in
    let passed = c.in-Some-pass_scalar.ensures.passed t scalar r.proper count [] occurs [] refl c.in-Ok.ensures.counted in (
      λ yes. due.0 (subst (λ l. Fits c.in-Ok.due l) (append-nil (most_at t)) (passed.0 (eqb-true c.in-Some-pass_scalar.rest.at 0 yes))),
      λ z. eq-eqb c.in-Some-pass_scalar.rest.at 0 (passed.1 (subst (λ l. Fits c.in-Ok.due l) (sym (append-nil (most_at t))) (due.1 z))),
    )

pub returns-in-None-pass_scalar : goal.returns-in-None-pass_scalar
returns-in-None-pass_scalar c = λ t r e.
    let due = c.in-Ok.ensures.fits (omega arith) (most_at t) (most_each t r.proper ∙ ap length (sym e)) in
    let occurs = e ∙ sym (append-nil (key_of t)) in
    let scalar = scalar_there 512 t r c.in-Some.first.now c.in-Some.parts.now c.args.key.now [] c.in-Some.ensures.cases.0 occurs c.in-None.ensures.0 c.in-None.ensures.1 in
    let count = scalar_numbers 512 t r scalar c.in-Some.first.now c.in-Some.parts.now c.args.key.now [] c.in-Some.ensures.cases.0 occurs in
    refused (λ z. c.in-None-pass_scalar.ensures.passed t scalar r.proper count [] occurs [] refl c.in-Ok.ensures.counted (subst (λ l. Fits c.in-Ok.due l) (sym (append-nil (most_at t))) (due.1 z)))

use Rattle.std.proofs.Common.{◌<◌, ◌∷◌, ◌++◌, ◌-◌, inl, inr, length, replicate, refl, sym, ap, ◌∙◌, arith, eqb-true}
use Rattle.std.proofs.lemmas.Bool.{eqb-false}
use Rattle.jsonb_spec.specs.Document.Zeros.{zeros_of}
use Rattle.key_zeros.proofs.Taking.{none_pending, one_pending, pending_occurs, counts_long}
use Rattle.key_document.proofs.Fitting.{first_due, fit_from, none_fit, none_left}
use Rattle.key_document.proofs.due.zeros_due.Goals as goal

pub returns-then-is_empty-clause-due : goal.returns-then-is_empty-clause-due
returns-then-is_empty-clause-due c = λ fit counts long are. record {
  short = omega (arith, fit, long);
  next = inl (refl, record { size = length counts; all = none_pending counts c.args.zeros.now are (eqb-true (length c.args.zeros.now) 0 (sym c.is_empty.ensures ∙ c.if-is_empty.true)) });
}

pub returns-then-is_empty-clause-fits : goal.returns-then-is_empty-clause-fits
returns-then-is_empty-clause-fits c = λ fit most long. (
  λ h. none_fit most c.args.zeros.now (eqb-true (length c.args.zeros.now) 0 (sym c.is_empty.ensures ∙ c.if-is_empty.true)),
  λ z. none_left 0 0 c.args.zeros.now refl most,
)

pub returns-in_default-clause-due : goal.returns-in_default-clause-due
returns-in_default-clause-due c = λ fit counts long are.
    let some : 0 < length c.args.zeros.now = omega (arith, eqb-false (length c.args.zeros.now) 0 (sym c.is_empty.ensures ∙ c.if-is_empty.false)) in
    let x = one_pending counts c.args.zeros.now are some in
    absurd (c.in_default.ensures.found x.before x.count (omega (arith, fit, long, counts_long counts x.before x.count x.later x.is)) x.some _ (pending_occurs counts c.args.zeros.now are x))

pub returns-in_default-clause-fits : goal.returns-in_default-clause-fits
returns-in_default-clause-fits c = λ fit most long z.
    let some : 0 < length c.args.zeros.now = omega (arith, eqb-false (length c.args.zeros.now) 0 (sym c.is_empty.ensures ∙ c.if-is_empty.false)) in
    let x = first_due c.args.left c.args.zeros.now most long some z in
    absurd (c.in_default.ensures.found x.before x.count (omega (arith, x.low, fit)) x.counted (zeros_of 0 x.later) x.occurs)

pub returns-then-before-left-clause-due : goal.returns-then-before-left-clause-due
returns-then-before-left-clause-due c = λ fit counts long are.
    let some : 0 < length c.args.zeros.now = omega (arith, eqb-false (length c.args.zeros.now) 0 (sym c.is_empty.ensures ∙ c.if-is_empty.false)) in
    let x = one_pending counts c.args.zeros.now are some in
    let y = c.in-Some.ensures.found x.before x.count (omega (arith, fit, long, counts_long counts x.before x.count x.later x.is)) x.some _ (pending_occurs counts c.args.zeros.now are x) in
    absurd (omega (arith, c.if-before-left.true, y.0, long, counts_long counts x.before x.count x.later x.is))

pub returns-then-before-left-clause-fits : goal.returns-then-before-left-clause-fits
returns-then-before-left-clause-fits c = λ fit most long z.
    let some : 0 < length c.args.zeros.now = omega (arith, eqb-false (length c.args.zeros.now) 0 (sym c.is_empty.ensures ∙ c.if-is_empty.false)) in
    let x = first_due c.args.left c.args.zeros.now most long some z in
    let y = c.in-Some.ensures.found x.before x.count (omega (arith, x.low, fit)) x.counted (zeros_of 0 x.later) x.occurs in
    omega (arith, y.0, x.low, c.if-before-left.true)

pub returns-clause-due : goal.returns-clause-due
returns-clause-due c = λ fit counts long are.
    let some : 0 < length c.args.zeros.now = omega (arith, eqb-false (length c.args.zeros.now) 0 (sym c.is_empty.ensures ∙ c.if-is_empty.false)) in
    let x = one_pending counts c.args.zeros.now are some in
    let all = counts_long counts x.before x.count x.later x.is in
    let y = c.in-Some.ensures.found x.before x.count (omega (arith, fit, long, all)) x.some _ (pending_occurs counts c.args.zeros.now are x) in
    record {
      short = omega (arith, fit, long);
      next = inr (record {
        before = x.before;
        pending = record {
          later = x.later;
          is = x.is ∙ ap (λ n. replicate x.before 0 ++ n ∷ x.later) (sym y.1);
          some = omega (arith, x.some, y.1);
          zeros = y.2;
        };
        left = omega (arith, c.if-before-left.false, y.0, long, all);
      });
    }

pub returns-clause-fits : goal.returns-clause-fits
returns-clause-fits c = λ fit most long.
    let some : 0 < length c.args.zeros.now = omega (arith, eqb-false (length c.args.zeros.now) 0 (sym c.is_empty.ensures ∙ c.if-is_empty.false)) in
    fit_from c.args.left c.args.zeros.now most long some c.in-Some.before (c.args.left - c.in-Some.before) c.in-Some.count c.in-Some.entries.now (omega (arith, c.if-before-left.false)) refl c.in-Some.ensures.some.1 c.in-Some.ensures.first
    (λ x. c.in-Some.ensures.found x.before x.count (omega (arith, x.low, fit)) x.counted (zeros_of 0 x.later) x.occurs)

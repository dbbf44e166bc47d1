use Rattle.std.proofs.Common.{List, ℕ, Ok, inr, subst, arith}
use Rattle.jsonb_spec.specs.SortKey.Open.{Open}
use Rattle.key_walk.specs.Steps.{IsAmid, StepsOver}
use Rattle.key_walk.proofs.Stepping.{all_passed, no_error, stacked_depth, step_passed}
use Rattle.key_edit.proofs.Depths.{FitsLeft, FitsOrNot, all_fit, end_fits, fits_begun, not_too_many, opening_fits, too_many, value_fits}
use Rattle.key_edit.proofs.fit.parts_fit.Goals as goal

pub steps-init : goal.steps-init
steps-init c = record {
  walks = λ o is h more e. record { opens = _; amid = c.over-steps.ensures.begun o is h more e; holds = fits_begun o c.args.inner };
}

pub returns-in_err-next : goal.returns-in_err-next
returns-in_err-next c = λ o is h more e.
    absurd (no_error (FitsLeft o c.args.inner) more c.steps.steps c.next.new.self (c.steps.invariant.walks o is h more e) c.in_err-next.field-0.0 c.in_err-next.ensures.steps)

pub returns-then-steps-inner : goal.returns-then-steps-inner
returns-then-steps-inner c = λ o is h more e.
    let s = step_passed (FitsLeft o c.args.inner) more c.steps.steps c.next.new.self (c.steps.invariant.walks o is h more e) (FitsOrNot o c.args.inner) c.in-Some.field-0
    (subst (λ r. (opens : List Open) (behind : List ℕ) → IsAmid opens behind c.steps.steps → StepsOver opens behind c.steps.steps (Ok r) c.next.new.self) c.in-Some.is c.in_ok-next.ensures.steps)
    (λ p under x f. inr (end_fits o c.args.inner p under f x.is_over))
    (λ p under x f. opening_fits o c.args.inner p under f x.name x.value x.others x.is_part x.inside x.whole)
    (λ p under v x f. inr (value_fits o c.args.inner p under f x.name x.value x.others x.is_part x.left x.readable x.is_scalar)) in
    too_many o c.args.inner s.opens (omega (arith, stacked_depth s.opens c.next.new.self.objects c.next.new.self.depth s.amid.stacked, c.if-steps-inner.true)) s.holds

pub steps-preserved : goal.steps-preserved
steps-preserved c = record {
  walks = λ o is h more e.
      let s = step_passed (FitsLeft o c.args.inner) more c.steps.steps c.next.new.self (c.steps.invariant.walks o is h more e) (FitsOrNot o c.args.inner) c.in-Some.field-0
      (subst (λ r. (opens : List Open) (behind : List ℕ) → IsAmid opens behind c.steps.steps → StepsOver opens behind c.steps.steps (Ok r) c.next.new.self) c.in-Some.is c.in_ok-next.ensures.steps)
      (λ p under x f. inr (end_fits o c.args.inner p under f x.is_over))
      (λ p under x f. opening_fits o c.args.inner p under f x.name x.value x.others x.is_part x.inside x.whole)
      (λ p under v x f. inr (value_fits o c.args.inner p under f x.name x.value x.others x.is_part x.left x.readable x.is_scalar)) in
      record {
        opens = s.opens;
        amid = s.amid;
        holds = not_too_many o c.args.inner s.opens (omega (arith, stacked_depth s.opens c.next.new.self.objects c.next.new.self.depth s.amid.stacked, c.if-steps-inner.false)) s.holds;
      };
}

pub returns : goal.returns
returns c = λ o is h more e.
    all_fit o c.args.inner (all_passed (FitsLeft o c.args.inner) more c.steps.steps c.next.new.self (c.steps.invariant.walks o is h more e)
    (subst (λ r. (opens : List Open) (behind : List ℕ) → IsAmid opens behind c.steps.steps → StepsOver opens behind c.steps.steps (Ok r) c.next.new.self) c.in_default.is c.in_ok-next.ensures.steps))

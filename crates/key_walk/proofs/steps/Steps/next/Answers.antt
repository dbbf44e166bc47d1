use Rattle.std.proofs.Common.{◌≡◌, ◌+◌, inl, inr, refl, subst, arith, ◌++◌, Ok}
use Rattle.key_walk.specs.NextPart.{BeginsWithPart}
use Rattle.jsonb_spec.specs.SortKey.Steps.{opens_key}
use Rattle.key_walk.proofs.Stepping.{begins_here, end_passed, opened, scalar_passed, stepped}
use Rattle.key_walk.proofs.steps.Steps.next.Goals as goal

pub returns-in-End-clause-steps : goal.returns-in-End-clause-steps
returns-in-End-clause-steps c = λ opens more w.
    let old = c.args.self.now in
    let at : c.in-Some.top + 1 ≡ old.depth = omega (arith, c.in-Some.ensures) in
    stepped more old c.in-Some.top at c.kind_at.result c.kind_at.ensures opens w _ _
    (λ o under w.
    let x = subst (λ p. BeginsWithPart o w.left (opens_key under ++ more) old.rest.now (Ok p)) c.in-End.is (begins_here more old c.in-Some.top at c.kind_at.result c.kind_at.ensures o under w (Ok c.in_ok-after.field-0) c.in_ok-after.ensures.next) in
    inl (end_passed more old c.in-Some.top at c.kind_at.result c.kind_at.ensures o under w c.in-End.after.now x _ refl refl refl))

pub returns-in_ok-open-in-Opening-clause-steps : goal.returns-in_ok-open-in-Opening-clause-steps
returns-in_ok-open-in-Opening-clause-steps c = λ opens more w.
    let old = c.args.self.now in
    let at : c.in-Some.top + 1 ≡ old.depth = omega (arith, c.in-Some.ensures) in
    stepped more old c.in-Some.top at c.kind_at.result c.kind_at.ensures opens w _ _
    (λ o under w.
    let x = subst (λ p. BeginsWithPart o w.left (opens_key under ++ more) old.rest.now (Ok p)) c.in-Opening.is (begins_here more old c.in-Some.top at c.kind_at.result c.kind_at.ensures o under w (Ok c.in_ok-after.field-0) c.in_ok-after.ensures.next) in
    let within = c.in_ok-open-in-Opening.ensures.opened in
    inr (opened more old c.in-Some.top at c.kind_at.result c.kind_at.ensures o under w c.in-Opening.opened x c.open.new.self within (omega (arith, within.space, c.open.new.self.deep))))

pub returns-in-Scalar-clause-steps : goal.returns-in-Scalar-clause-steps
returns-in-Scalar-clause-steps c = λ opens more w.
    let old = c.args.self.now in
    let at : c.in-Some.top + 1 ≡ old.depth = omega (arith, c.in-Some.ensures) in
    stepped more old c.in-Some.top at c.kind_at.result c.kind_at.ensures opens w _ _
    (λ o under w.
    let x = subst (λ p. BeginsWithPart o w.left (opens_key under ++ more) old.rest.now (Ok p)) c.in-Scalar.is (begins_here more old c.in-Some.top at c.kind_at.result c.kind_at.ensures o under w (Ok c.in_ok-after.field-0) c.in_ok-after.ensures.next) in
    scalar_passed more old c.in-Some.top at c.kind_at.result c.kind_at.ensures o under w c.in-Scalar.part x _ refl refl refl)

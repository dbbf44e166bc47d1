use Rattle.std.proofs.Common.{◌≡◌, ◌++◌, ◌∷◌, [], List, ℕ, Ok, Some, length, refl, sym, ap, subst, ◌∙◌, arith, append-nil, length-append}
use Rattle.jsonb_spec.specs.SortKey.{key_of}
use Rattle.jsonb_spec.specs.SortKey.Open.{Open, end_key, is_object, name_key, open_key, opening_byte}
use Rattle.key_walk.specs.Steps.{IsAmid, StepsOver}
use Rattle.key_walk.proofs.Stepping.{all_passed, edge_passed, no_error, value_passed}
use Rattle.key_zeros.proofs.Counting.{behind_long, scalar_numbers}
use Rattle.key_document.specs.Check.{most_at, most_open}
use Rattle.key_document.proofs.Checked.{refused}
use Rattle.key_document.proofs.Fitting.{Fitting, at_value, end_fits, fitting_begun, most_each, most_left, none_left, open_each, opening_fits, value_fits}
use Rattle.key_document.proofs.check.parts_fit.Goals as goal

pub steps-init : goal.steps-init
steps-init c = record {
  fits = λ o is h e d. record {
    opens = o ∷ [];
    amid = c.over-steps.ensures.begun o is h [] (e ∙ sym (append-nil (open_key o)));
    holds = subst (λ rest. Fitting c.args.begun.now (most_open o) c.args.begun.now (length rest) (o ∷ [])) (sym c.over-steps.ensures.rest)
        (fitting_begun c.args.begun.now (length c.args.bytes.now) o (open_each o h ∙ ap length (sym e)) d);
  };
}

pub returns : goal.returns
returns c = λ o is h e d.
    let w = c.steps.invariant.fits o is h e d in
    (λ yes. w.holds.same.1 (none_left c.steps.due.at c.steps.due.count c.steps.due.entries.now (omega (arith, c.steps-test.false)) (most_left w.opens)), λ f. refl)

pub returns-in_default : goal.returns-in_default
returns-in_default c = λ o is h e d.
    refused (λ f. no_error (Fitting c.args.begun.now (most_open o) c.steps.due (length c.steps.steps.rest.now)) [] c.steps.steps c.next.new.self (c.steps.invariant.fits o is h e d) c.in_default.field-0 c.in_default.ensures.steps)

pub returns-in_default-passed : goal.returns-in_default-passed
returns-in_default-passed c = λ o is h e d.
    let x = all_passed (Fitting c.args.begun.now (most_open o) c.steps.due (length c.steps.steps.rest.now)) [] c.steps.steps c.next.new.self (c.steps.invariant.fits o is h e d)
    (subst (λ r. (opens : List Open) (behind : List ℕ) → IsAmid opens behind c.steps.steps → StepsOver opens behind c.steps.steps (Ok r) c.next.new.self) c.in_default-passed.is c.in-Ok.ensures.steps) in
    refused (λ f. omega (arith, x.same.0 f, c.steps-test.true))

pub steps-preserved : goal.steps-preserved
steps-preserved c = record {
  fits = λ o is h e d.
      edge_passed (Fitting c.args.begun.now (most_open o) c.steps.due (length c.steps.steps.rest.now)) [] c.steps.steps c.next.new.self (c.steps.invariant.fits o is h e d)
      (Fitting c.args.begun.now (most_open o) c.steps.due (length c.next.new.self.rest.now))
      (subst (λ r. (opens : List Open) (behind : List ℕ) → IsAmid opens behind c.steps.steps → StepsOver opens behind c.steps.steps (Ok r) c.next.new.self) (c.in-Some.is ∙ ap Some c.in_default-step.is) c.in-Ok.ensures.steps)
      (λ p under x f. end_fits c.args.begun.now (most_open o) c.steps.due (length c.steps.steps.rest.now) (length c.next.new.self.rest.now) p under x.is_over (behind_long c.steps.steps.rest.now (end_key (is_object p)) c.next.new.self.rest.now x.passed) f)
      (λ p under x f. opening_fits c.args.begun.now (most_open o) c.steps.due (length c.steps.steps.rest.now) (length c.next.new.self.rest.now) p x.name x.value x.others x.inside under x.is_part x.whole
      (behind_long c.steps.steps.rest.now (name_key (is_object p) x.name) (opening_byte (is_object x.inside) ∷ c.next.new.self.rest.now) x.passed) f);
}

pub steps-preserved-in-Scalar : goal.steps-preserved-in-Scalar
steps-preserved-in-Scalar c = record {
  fits = λ o is h e d.
      let v = value_passed (Fitting c.args.begun.now (most_open o) c.steps.due (length c.steps.steps.rest.now)) [] c.steps.steps c.next.new.self (c.steps.invariant.fits o is h e d) c.in-Scalar.scalar
      (subst (λ r. (opens : List Open) (behind : List ℕ) → IsAmid opens behind c.steps.steps → StepsOver opens behind c.steps.steps (Ok r) c.next.new.self) (c.in-Some.is ∙ ap Some c.in-Scalar.is) c.in-Ok.ensures.steps) in
      let value = c.in-Scalar.scalar.value.now in
      let after = c.in-Scalar.scalar.after.now in
      let t = at_value c.args.begun.now (most_open o) c.steps.due (length c.steps.steps.rest.now) (length value) v.o v.x.name v.x.value v.x.others v.under v.x.is_part (behind_long c.steps.steps.rest.now (name_key (is_object v.o) v.x.name) value (sym v.x.from ∙ v.x.named)) v.holds in
      let count = scalar_numbers v.x.left v.x.value v.x.readable v.x.is_scalar c.in-Scalar.scalar.first v.x.tail value after v.x.begins v.x.occurs in
      let long : length (most_left (v.x.others ∷ v.under)) ≡ length after =
      omega (arith, t.each, ap length v.x.occurs, length-append (key_of v.x.value) after, length-append (most_at v.x.value) (most_left (v.x.others ∷ v.under)), most_each v.x.value v.x.readable.proper) in
      record {
        opens = v.x.others ∷ v.under;
        amid = v.x.amid;
        holds = value_fits c.args.begun.now (most_open o) c.steps.due (length value) (length c.next.new.self.rest.now) v.x.value (v.x.others ∷ v.under) t v.x.readable.proper
            (behind_long value (key_of v.x.value) c.next.new.self.rest.now (v.x.occurs ∙ ap (λ r. key_of v.x.value ++ r) (sym v.x.behind))) c.in-Some-pass_scalar.next
            (c.in-Some-pass_scalar.ensures.passed v.x.value v.x.is_scalar v.x.readable.proper count after v.x.occurs (most_left (v.x.others ∷ v.under)) long t.counted)
            (c.in-Some-pass_scalar.ensures.counted t.counted);
      };
}

pub returns-in_default-pass_scalar : goal.returns-in_default-pass_scalar
returns-in_default-pass_scalar c = λ o is h e d.
    let v = value_passed (Fitting c.args.begun.now (most_open o) c.steps.due (length c.steps.steps.rest.now)) [] c.steps.steps c.next.new.self (c.steps.invariant.fits o is h e d) c.in-Scalar.scalar
    (subst (λ r. (opens : List Open) (behind : List ℕ) → IsAmid opens behind c.steps.steps → StepsOver opens behind c.steps.steps (Ok r) c.next.new.self) (c.in-Some.is ∙ ap Some c.in-Scalar.is) c.in-Ok.ensures.steps) in
    let value = c.in-Scalar.scalar.value.now in
    let after = c.in-Scalar.scalar.after.now in
    let t = at_value c.args.begun.now (most_open o) c.steps.due (length c.steps.steps.rest.now) (length value) v.o v.x.name v.x.value v.x.others v.under v.x.is_part (behind_long c.steps.steps.rest.now (name_key (is_object v.o) v.x.name) value (sym v.x.from ∙ v.x.named)) v.holds in
    let count = scalar_numbers v.x.left v.x.value v.x.readable v.x.is_scalar c.in-Scalar.scalar.first v.x.tail value after v.x.begins v.x.occurs in
    let long : length (most_left (v.x.others ∷ v.under)) ≡ length after =
    omega (arith, t.each, ap length v.x.occurs, length-append (key_of v.x.value) after, length-append (most_at v.x.value) (most_left (v.x.others ∷ v.under)), most_each v.x.value v.x.readable.proper) in
    refused (λ f. c.in_default-pass_scalar.ensures.passed v.x.value v.x.is_scalar v.x.readable.proper count after v.x.occurs (most_left (v.x.others ∷ v.under)) long t.counted (t.same.0 f))

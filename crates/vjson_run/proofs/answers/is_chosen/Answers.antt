use Rattle.std.proofs.Common.{◌≡◌, ◌<◌, ◌≤◌, ◌∙◌, ap, get_or, length, refl, rules, subst, sym, Err}
use Rattle.vjson_run.proofs.Chosen.{holds_more, left_out, not_left_out, unchecked}
use Rattle.vjson_run.proofs.Troubled.{by_command}
use Rattle.vjson_text.specs.declared.fault.Fault.TheVariants.{NoMemory}
use Rattle.vjson_run.proofs.answers.is_chosen.Goals as goal

pub conditions-preserved : goal.conditions-preserved
conditions-preserved c =
    let same = c.deref-condition-items.ensures.value in
    holds_more c.args.options.now.grammar c.args.text.now c.args.options.now.conditions.items c.conditions.condition-index c.condition-item.result c.in_ok-held.held
    (subst (λ l. c.conditions.condition-index < length l) same c.conditions-test.true) (c.condition-item.is ∙ ap (λ l. get_or l c.conditions.condition-index c.condition-item.result) same)
    c.in_ok-held.ensures.ok c.if-not-held.false c.conditions.invariant

pub returns-then-not-held-clause-ok : goal.returns-then-not-held-clause-ok
returns-then-not-held-clause-ok c = left_out c.args.options.now c.args.text.now c.deref-condition-items.result.now c.conditions.condition-index c.condition-item.result c.in_ok-held.held
    (sym c.leaves_out.ensures ∙ c.if-not-leaves_out.false) c.deref-condition-items.ensures.value c.conditions-test.true c.condition-item.is c.in_ok-held.ensures.ok c.if-not-held.true

pub returns-clause-ok : goal.returns-clause-ok
returns-clause-ok c = not_left_out c.args.options.now c.args.text.now c.args.options.now.conditions.items c.conditions.condition-index refl
    (subst (λ l. length l ≤ c.conditions.condition-index) c.deref-condition-items.ensures.value c.conditions-test.false) c.conditions.invariant

pub returns-in_err-held-clause-memory : goal.returns-in_err-held-clause-memory
returns-in_err-held-clause-memory c = λ is.
    let lack : c.holds.result ≡ Err NoMemory = search rules in
    by_command c.args.options.now.command c.args.options.now.command c.args.options.now.grammar c.args.text.now refl
    (unchecked c.args.options.now.command (sym c.leaves_out.ensures ∙ c.if-not-leaves_out.false)) (c.holds.ensures.memory lack)

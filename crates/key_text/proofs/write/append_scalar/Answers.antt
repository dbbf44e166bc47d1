use Rattle.std.proofs.Common.{◌∷◌, refl, ◌-◌, ◌++◌, length, sym, ap, ◌∙◌, arith, length-append}
use Rattle.jsonb_spec.specs.SortKey.{key_of, number_key}
use Rattle.jsonb_spec.specs.Text.{tree_text}
use Rattle.jsonb_spec.specs.Text.NumberText.{number_text}
use Rattle.jsonb_core.proofs.Appending.Appended.{on_ok}
use Rattle.jsonb_spec.specs.Document.Counts.{counts_at}
use Rattle.key_text.proofs.Appending.{out_of_memory, passed_on, as_text, not_ok}
use Rattle.key_text.proofs.Counts.{behind_first, due_as, due_behind_plain, number_left}
use Rattle.key_text.proofs.Decimals.{fewest_shorter}
use Rattle.key_text.proofs.Scalars.{word_of, string_text, number_there}
use Rattle.key_text.proofs.write.append_scalar.Goals as goal

pub returns-then-first-eq-STRING-clause-found : goal.returns-then-first-eq-STRING-clause-found
returns-then-first-eq-STRING-clause-found g c = λ depth t r s more e later each d.
    let x = string_text depth t r c.args.first c.args.rest.now (c.args.first ∷ c.args.rest.now) more refl e c.if-first-eq-STRING.true in (
      as_text (λ rest. rest.now) c.append_long_string.result c.args.buf.now c.append_long_string.new.buf more _ _ x.2 (c.append_long_string.ensures.found x.0 more x.1),
      on_ok c.append_long_string.result (due_behind_plain (g.Z.Zeros.due c.args.zeros.now) t later x.3 d),
    )

pub returns-in_err-extend_from_slice-clause-found : goal.returns-in_err-extend_from_slice-clause-found
returns-in_err-extend_from_slice-clause-found g c = λ depth t r s more e later each d.
    let w = (word_of depth t r s c.args.first c.args.rest.now (c.args.first ∷ c.args.rest.now) more refl e).is_null c.if-first-eq-NULL.true in (
      out_of_memory (λ rest. rest.now) c.from_residual.result c.args.buf.now c.extend_from_slice.new.self more _ c.from_residual.ensures.1 (omega (arith, c.in_err-extend_from_slice.ensures.full, ap length w.1)),
      not_ok _ c.from_residual.result _ c.from_residual.ensures.1,
    )

pub returns-then-first-eq-NULL-clause-found : goal.returns-then-first-eq-NULL-clause-found
returns-then-first-eq-NULL-clause-found g c = λ depth t r s more e later each d.
    let w = (word_of depth t r s c.args.first c.args.rest.now (c.args.first ∷ c.args.rest.now) more refl e).is_null c.if-first-eq-NULL.true in
    ((w.0, c.in_ok-extend_from_slice.ensures.items ∙ ap (λ t. c.args.buf.now.items ++ t) (sym w.1)), due_behind_plain (g.Z.Zeros.due c.args.zeros.now) t later w.2 d)

pub returns-in_err-extend_from_slice-2-clause-found : goal.returns-in_err-extend_from_slice-2-clause-found
returns-in_err-extend_from_slice-2-clause-found g c = λ depth t r s more e later each d.
    let w = (word_of depth t r s c.args.first c.args.rest.now (c.args.first ∷ c.args.rest.now) more refl e).is_false c.if-first-eq-FALSE.true in (
      out_of_memory (λ rest. rest.now) c.from_residual-in_err-extend_from_slice-2.result c.args.buf.now c.extend_from_slice-then-first-eq-FALSE.new.self more _ c.from_residual-in_err-extend_from_slice-2.ensures.1 (omega (arith, c.in_err-extend_from_slice-2.ensures.full, ap length w.1)),
      not_ok _ c.from_residual-in_err-extend_from_slice-2.result _ c.from_residual-in_err-extend_from_slice-2.ensures.1,
    )

pub returns-then-first-eq-FALSE-clause-found : goal.returns-then-first-eq-FALSE-clause-found
returns-then-first-eq-FALSE-clause-found g c = λ depth t r s more e later each d.
    let w = (word_of depth t r s c.args.first c.args.rest.now (c.args.first ∷ c.args.rest.now) more refl e).is_false c.if-first-eq-FALSE.true in
    ((w.0, c.in_ok-extend_from_slice-2.ensures.items ∙ ap (λ t. c.args.buf.now.items ++ t) (sym w.1)), due_behind_plain (g.Z.Zeros.due c.args.zeros.now) t later w.2 d)

pub returns-in_err-extend_from_slice-3-clause-found : goal.returns-in_err-extend_from_slice-3-clause-found
returns-in_err-extend_from_slice-3-clause-found g c = λ depth t r s more e later each d.
    let w = (word_of depth t r s c.args.first c.args.rest.now (c.args.first ∷ c.args.rest.now) more refl e).is_true c.if-first-eq-TRUE.true in (
      out_of_memory (λ rest. rest.now) c.from_residual-in_err-extend_from_slice-3.result c.args.buf.now c.extend_from_slice-then-first-eq-TRUE.new.self more _ c.from_residual-in_err-extend_from_slice-3.ensures.1 (omega (arith, c.in_err-extend_from_slice-3.ensures.full, ap length w.1)),
      not_ok _ c.from_residual-in_err-extend_from_slice-3.result _ c.from_residual-in_err-extend_from_slice-3.ensures.1,
    )

pub returns-then-first-eq-TRUE-clause-found : goal.returns-then-first-eq-TRUE-clause-found
returns-then-first-eq-TRUE-clause-found g c = λ depth t r s more e later each d.
    let w = (word_of depth t r s c.args.first c.args.rest.now (c.args.first ∷ c.args.rest.now) more refl e).is_true c.if-first-eq-TRUE.true in
    ((w.0, c.in_ok-extend_from_slice-3.ensures.items ∙ ap (λ t. c.args.buf.now.items ++ t) (sym w.1)), due_behind_plain (g.Z.Zeros.due c.args.zeros.now) t later w.2 d)

pub returns-in_err-left-clause-found : goal.returns-in_err-left-clause-found
returns-in_err-left-clause-found g c = λ depth t r s more e later each d.
    let n = number_there depth t r s c.args.first c.args.rest.now (c.args.first ∷ c.args.rest.now) more refl e c.if-first-eq-STRING.false c.if-first-eq-NULL.false c.if-first-eq-FALSE.false c.if-first-eq-TRUE.false in
    let lacks = c.in_err-left.ensures.found n.0 n.1 more (e ∙ ap (λ u. key_of u ++ more) n.2) in (
      passed_on (λ rest. rest.now) c.from_residual-in_err-left.result c.args.buf.now c.append_number.new.buf more _ c.in_err-left.field-0.0 c.from_residual-in_err-left.ensures.1 lacks.0
          (omega (arith, lacks.1, fewest_shorter n.0 n.1, ap (λ u. length (tree_text u)) n.2)),
      not_ok _ c.from_residual-in_err-left.result _ c.from_residual-in_err-left.ensures.1,
    )

pub returns-in_err-append_next-clause-found : goal.returns-in_err-append_next-clause-found
returns-in_err-append_next-clause-found g c = λ depth t r s more e later each d.
    let n = number_there depth t r s c.args.first c.args.rest.now (c.args.first ∷ c.args.rest.now) more refl e c.if-first-eq-STRING.false c.if-first-eq-NULL.false c.if-first-eq-FALSE.false c.if-first-eq-TRUE.false in
    let there = e ∙ ap (λ u. key_of u ++ more) n.2 in
    let written = c.in_ok-left.ensures.found n.0 n.1 more there in
    let due = due_as (g.Z.Zeros.due c.args.zeros.now) (counts_at t ++ later) _ (ap (λ u. counts_at u ++ later) n.2) d in
    let lacks = c.in_err-append_next.ensures.completes n.0 n.1 c.args.buf.now.items (omega (arith, c.len-start.ensures)) written.1 due.passed (behind_first n.0 later) (omega (arith, number_left n.0 n.1 (c.args.first ∷ c.args.rest.now) more later there each)) due.due in (
      passed_on (λ rest. rest.now) c.from_residual-in_err-append_next.result c.args.buf.now c.append_next.new.buf more _ c.in_err-append_next.field-0.0 c.from_residual-in_err-append_next.ensures.1 lacks.0
          (omega (arith, lacks.1, c.in_ok-left.ensures.preserves.capacity, length-append c.args.buf.now.items (number_text n.0), ap (λ u. length (tree_text u)) n.2)),
      not_ok _ c.from_residual-in_err-append_next.result _ c.from_residual-in_err-append_next.ensures.1,
    )

pub returns-clause-found : goal.returns-clause-found
returns-clause-found g c = λ depth t r s more e later each d.
    let n = number_there depth t r s c.args.first c.args.rest.now (c.args.first ∷ c.args.rest.now) more refl e c.if-first-eq-STRING.false c.if-first-eq-NULL.false c.if-first-eq-FALSE.false c.if-first-eq-TRUE.false in
    let there = e ∙ ap (λ u. key_of u ++ more) n.2 in
    let written = c.in_ok-left.ensures.found n.0 n.1 more there in
    let due = due_as (g.Z.Zeros.due c.args.zeros.now) (counts_at t ++ later) _ (ap (λ u. counts_at u ++ later) n.2) d in
    let done = c.in_ok-append_next.ensures.completes n.0 n.1 c.args.buf.now.items (omega (arith, c.len-start.ensures)) written.1 due.passed (behind_first n.0 later) (omega (arith, number_left n.0 n.1 (c.args.first ∷ c.args.rest.now) more later there each)) due.due in
    ((written.0, done.0 ∙ ap (λ u. c.args.buf.now.items ++ tree_text u) (sym n.2)), record { passed = length (number_key n.0) - 1; due = done.1 })

use Rattle.std.proofs.Common.{◌≡◌, ◌++◌, length, sym, ap, subst, ◌∙◌, arith, eqb-true}
use Rattle.jsonb_spec.specs.Document.Counts.{counts_at}
use Rattle.jsonb_spec.specs.SortKey.Text.{LacksCapacity}
use Rattle.key_document.specs.Changes.{of_key_error}
use Rattle.jsonb_spec.specs.Document.{zeros_at}
use Rattle.key_text.proofs.Counts.{one_each}
use Rattle.key_document.proofs.NoZeros.{text_shortest}
use Rattle.key_document.proofs.Texts.{of_memory, only_memory, shortest_appended, text_appended}
use Rattle.key_document.proofs.text.append_text_of_document.Goals as goal
use Rattle.jsonb_core.proofs.Appending.Appended.{on_err}

pub returns-then-is_empty-clause-text : goal.returns-then-is_empty-clause-text
returns-then-is_empty-clause-text c = λ t r d.
    let key = c.split_document.ensures.key t r d in
    let none : length (zeros_at t) ≡ 0 = sym (ap length (c.split_document.ensures.zeros t r d)) ∙ eqb-true (length c.split_document.result.1.now) 0 (sym c.is_empty.ensures ∙ c.if-is_empty.true) in
    text_appended t c.args.out.now.items c.write_text_of_key.new.buf.items r
    (shortest_appended t c.args.out.now.items c.write_text_of_key.new.buf.items (c.in_ok-write_text_of_key.ensures.ok t r key) ∙ ap (λ l. c.args.out.now.items ++ l) (sym (text_shortest t r none)))

pub returns-in_err-due-clause-errors : goal.returns-in_err-due-clause-errors
returns-in_err-due-clause-errors c =
    only_memory c.from_residual-in_err-due.result (of_key_error c.in_err-due.field-0.0) c.args.document.now c.from_residual-in_err-due.ensures.1 (λ t r d.
    absurd (c.in_err-due.ensures.due (omega arith) (counts_at t) (omega (arith, ap length (c.split_document.ensures.key t r d), one_each t r.proper)) (c.split_document.ensures.zeros t r d)))

pub returns-in_err-write_text_with-clause-errors : goal.returns-in_err-write_text_with-clause-errors
returns-in_err-write_text_with-clause-errors c =
    only_memory c.from_residual-in_err-write_text_with.result (of_key_error c.in_err-write_text_with.field-0.0) c.args.document.now c.from_residual-in_err-write_text_with.ensures.1 (λ t r d.
    let key = c.split_document.ensures.key t r d in
    let due = c.in_ok-due.ensures.due (omega arith) (counts_at t) (omega (arith, ap length key, one_each t r.proper)) (c.split_document.ensures.zeros t r d) in
    of_memory c.in_err-write_text_with.field-0.0 (λ is. c.in_err-write_text_with.ensures.invalid is t r key due))

pub returns-clause-text : goal.returns-clause-text
returns-clause-text c = λ t r d.
    let key = c.split_document.ensures.key t r d in
    let due = c.in_ok-due.ensures.due (omega arith) (counts_at t) (omega (arith, ap length key, one_each t r.proper)) (c.split_document.ensures.zeros t r d) in
    text_appended t c.args.out.now.items c.write_text_with.new.buf.items r (c.in_ok-write_text_with.ensures.ok t r key due)

pub returns-in_err-write_text_of_key-clause-full : goal.returns-in_err-write_text_of_key-clause-full
returns-in_err-write_text_of_key-clause-full c =
    on_err c.from_residual.result (λ t r d.
    let key = c.split_document.ensures.key t r d in
    let none : length (zeros_at t) ≡ 0 = sym (ap length (c.split_document.ensures.zeros t r d)) ∙ eqb-true (length c.split_document.result.1.now) 0 (sym c.is_empty.ensures ∙ c.if-is_empty.true) in
    subst (λ l. LacksCapacity c.args.out.now l) (sym (text_shortest t r none)) (c.in_err-write_text_of_key.ensures.full t r key))

pub returns-in_err-due-clause-full : goal.returns-in_err-due-clause-full
returns-in_err-due-clause-full c =
    on_err c.from_residual-in_err-due.result (λ t r d.
    absurd (c.in_err-due.ensures.due (omega arith) (counts_at t) (omega (arith, ap length (c.split_document.ensures.key t r d), one_each t r.proper)) (c.split_document.ensures.zeros t r d)))

pub returns-in_err-write_text_with-clause-full : goal.returns-in_err-write_text_with-clause-full
returns-in_err-write_text_with-clause-full c =
    on_err c.from_residual-in_err-write_text_with.result (λ t r d.
    let key = c.split_document.ensures.key t r d in
    let due = c.in_ok-due.ensures.due (omega arith) (counts_at t) (omega (arith, ap length key, one_each t r.proper)) (c.split_document.ensures.zeros t r d) in
    c.in_err-write_text_with.ensures.full t r key due)

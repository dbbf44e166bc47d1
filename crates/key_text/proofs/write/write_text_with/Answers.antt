use Rattle.std.proofs.Common.{◌≡◌, ◌==◌, true≢false, [], ◌++◌, length, sym, ap, refl, ◌∙◌, arith, append-nil}
use Rattle.jsonb_spec.specs.SortKey.{key_of}
use Rattle.jsonb_spec.specs.Text.{tree_text}
use Rattle.jsonb_spec.specs.Document.Counts.{counts_at}
use Rattle.key_text.proofs.Counts.{all_due}
use Rattle.key_value.specs.declared.error.KeyError.TheVariants.{Invalid, OutOfMemory}
use Rattle.key_text.proofs.write.write_text_with.Goals as goal

pub returns-then-is_empty-clause-ok : goal.returns-then-is_empty-clause-ok
returns-then-is_empty-clause-ok g c = λ t r e d.
    let x = c.in-Ok.ensures.found t r [] (e ∙ sym (append-nil (key_of t))) [] refl (all_due (g.Z.Zeros.due c.args.zeros.now) (counts_at t) d) in
    x.1 ∙ ap (λ items. items ++ tree_text t) c.try_reserve-reserved.ensures.items

pub returns-else-is_empty-clause-invalid : goal.returns-else-is_empty-clause-invalid
returns-else-is_empty-clause-invalid g c = λ is t r e d.
    let x = c.in-Ok.ensures.found t r [] (e ∙ sym (append-nil (key_of t))) [] refl (all_due (g.Z.Zeros.due c.args.zeros.now) (counts_at t) d) in
    absurd (true≢false (sym (c.is_empty.ensures ∙ ap (λ rest. length rest == 0) x.0) ∙ c.if-is_empty.false))

pub returns-else-is_empty-clause-full : goal.returns-else-is_empty-clause-full
returns-else-is_empty-clause-full g c = λ t r e d.
    let x = c.in-Ok.ensures.found t r [] (e ∙ sym (append-nil (key_of t))) [] refl (all_due (g.Z.Zeros.due c.args.zeros.now) (counts_at t) d) in
    absurd (true≢false (sym (c.is_empty.ensures ∙ ap (λ rest. length rest == 0) x.0) ∙ c.if-is_empty.false))

pub returns-in-Err-clause-invalid : goal.returns-in-Err-clause-invalid
returns-in-Err-clause-invalid g c = λ is t r e d.
    let x = c.in-Err.ensures.found t r [] (e ∙ sym (append-nil (key_of t))) [] refl (all_due (g.Z.Zeros.due c.args.zeros.now) (counts_at t) d) in
    let clash : Invalid ≡ OutOfMemory = sym is ∙ x.0 in
    cc clash

pub returns-in-Err-clause-full : goal.returns-in-Err-clause-full
returns-in-Err-clause-full g c = λ t r e d.
    let x = c.in-Err.ensures.found t r [] (e ∙ sym (append-nil (key_of t))) [] refl (all_due (g.Z.Zeros.due c.args.zeros.now) (counts_at t) d) in
    omega (arith, x.1, c.try_reserve-reserved.ensures.capacity, ap length c.try_reserve-reserved.ensures.items)

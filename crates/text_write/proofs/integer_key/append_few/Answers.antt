use Rattle.std.proofs.Common.{◌++◌, ◌∷◌, [], ◌∙◌, ap, append_assoc}
use Rattle.jsonb_spec.specs.SortKey.{invert_if}
use Rattle.text_write.proofs.IntegerKeys.{few_bytes}
use Rattle.text_write.proofs.integer_key.append_few.Goals as goal
use Rattle.text_write.proofs.integer_key.append_few.Goals.{then-count-eq2, else-count-eq2}

pub returns-clause-bytes : goal.returns-clause-bytes
returns-clause-bytes c = λ all.
    let old = c.args.out.now.items in
    let offset = c.invert_if-offset.result in
    let byte = c.invert_if-byte.result in
    c.push_reserved-2.ensures.items ∙ ap (λ xs. xs ++ byte ∷ []) (c.push_reserved.ensures.items ∙ ap (λ xs. xs ++ offset ∷ []) c.in_ok-try_reserve.ensures.items) ∙ append_assoc old (offset ∷ []) (byte ∷ [])
    ∙ ap (λ xs. old ++ xs)
    (few_bytes c.args.negative c.args.digits.now c.args.count offset byte c.if-count-eq2.second c.requires.some.0 c.requires.some.1 c.requires.inside c.requires.leads c.invert_if-offset.ensures
    (c.invert_if-byte.ensures ∙ ap (λ b. invert_if c.args.negative b) c.last_byte.ensures)
    (λ z. elim c.if-count-eq2.branch [ then-count-eq2 w ↦ w.second-is | else-count-eq2 w ↦ absurd (w.if-count-eq2.false z) ])
    (λ z. elim c.if-count-eq2.branch [ then-count-eq2 w ↦ absurd (z w.if-count-eq2.true) | else-count-eq2 w ↦ w.second-is ])
    all)

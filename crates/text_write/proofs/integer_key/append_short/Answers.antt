use Rattle.std.proofs.Common.{◌++◌, ◌-◌, ◌/◌, ◌+◌, ap, ◌∙◌, map, take, refl, rules}
use Rattle.std.specs.Prelude.{slice_set}
use Rattle.jsonb_spec.specs.SortKey.{invert_if}
use Rattle.text_write.proofs.IntegerKeys.{row_written}
use Rattle.text_members.proofs.Outcomes.{on_ok}
use Rattle.text_write.proofs.integer_key.append_short.Goals as goal
use Rattle.text_write.proofs.integer_key.append_short.Goals.{then-len-eq0, else-len-eq0}

pub returns-clause-bytes : goal.returns-clause-bytes
returns-clause-bytes c =
    let len = c.args.len in
    let last = (len - 1) / 2 in
    on_ok c.append_part.result c.append_part.ensures.bytes (λ e.
    e ∙ ap (λ xs. c.args.out.now.items ++ xs)
    (ap (take (last + 1)) (c.turned.ensures ∙ ap (λ b. map (invert_if c.args.negative) (slice_set c.more_bytes-row.result last b)) c.last_byte.ensures)
    ∙ row_written c.args.negative c.args.digits.now c.more_bytes-row.result len last _ c.if-len-eq0.second (search rules) c.more_bytes-row.ensures c.requires.0 c.requires.1 refl refl
    (λ z. elim c.if-len-eq0.branch [ then-len-eq0 w ↦ w.second-is | else-len-eq0 w ↦ absurd (w.if-len-eq0.false z) ])
    (λ z. elim c.if-len-eq0.branch [ then-len-eq0 w ↦ absurd (z w.if-len-eq0.true) | else-len-eq0 w ↦ w.second-is ])))

use Rattle.std.proofs.Common.{◌++◌, ◌∙◌, ap, sym, arith, ◌==◌}
use Rattle.text_write.proofs.IntegerKeys.{behind_first, behind_len, digits_behind, never_long, some_key, zero_key}
use Rattle.text_members.proofs.Outcomes.{on_ok}
use Rattle.text_write.proofs.integer_key.append_integer_key.Goals as goal

pub returns-then-count-ge32-clause-bytes : goal.returns-then-count-ge32-clause-bytes
returns-then-count-ge32-clause-bytes c = λ n is.
    let negative = c.byte_at-negative.result == 45 in
    let h = digits_behind c.args.bytes.now c.args.len c.from-start.result negative n c.requires (omega arith) (ap (λ b. b == 45) c.byte_at-negative.ensures) c.from-start.ensures is in
    let long = behind_len c.args.bytes.now c.args.len c.from-start.result c.requires (omega arith) in
    absurd (omega (arith, never_long negative _ n h, long, c.if-count-ge32.true))

pub returns-then-digits-eq48-clause-bytes : goal.returns-then-digits-eq48-clause-bytes
returns-then-digits-eq48-clause-bytes c =
    (λ n is.
    let negative = c.byte_at-negative.result == 45 in
    let h = digits_behind c.args.bytes.now c.args.len c.from-start.result negative n c.requires (omega arith) (ap (λ b. b == 45) c.byte_at-negative.ensures) c.from-start.ensures is in
    c.in_ok-extend_from_slice.ensures.items ∙ ap (λ xs. c.args.out.now.items ++ xs) (sym (zero_key negative _ n h (behind_first c.args.bytes.now c.args.len c.from-start.result (omega arith) ∙ c.if-digits-eq48.true))))

pub returns-clause-bytes : goal.returns-clause-bytes
returns-clause-bytes c =
    on_ok c.append_digits.result c.append_digits.ensures.bytes (λ e n is.
    let negative = c.byte_at-negative.result == 45 in
    let h = digits_behind c.args.bytes.now c.args.len c.from-start.result negative n c.requires (omega arith) (ap (λ b. b == 45) c.byte_at-negative.ensures) c.from-start.ensures is in
    e h.numeral.1 ∙ ap (λ xs. c.args.out.now.items ++ xs) (sym (some_key negative _ n h (λ z. c.if-digits-eq48.false (sym (behind_first c.args.bytes.now c.args.len c.from-start.result (omega arith)) ∙ z)))))

use Rattle.std.proofs.Common.{◌≡◌, ◌⊎◌, ◌+◌, ◌<◌, ◌≤◌, ◌^◌, true, arith, inl, inr, refl, sym, subst, ap, ◌∙◌}
use Rattle.std.proofs.lemmas.Bool.{eqb-true, false≢true}
use Rattle.std.specs.Prelude.{◌==◌, slice_index}
use Rattle.jsonb_spec.specs.Parsing.Number.{ContinuesNumber, digits_length}
use Rattle.text_scan.proofs.Numbers.Steps.{counted_all, short_is, short_read, starts_here, value_fits}
use Rattle.text_scan.proofs.parser.number.short_integer.Goals as goal
use Rattle.text_scan.proofs.parser.number.short_integer.Goals.{then-len-gt1, else-len-gt1, else-negative-via-then-negative+else-magnitude, else-negative-via-else-negative}

pub returns-clause-found : goal.returns-clause-found
returns-clause-found c size =
    let bs = c.args.bytes.now in
    let ds = c.after_minus-digits.result.now in
    let len = c.short_digits-len.result.0 in
    let stops : ¬ ContinuesNumber (slice_index ds len) = λ more. c.if-continues_number.ensures (subst ContinuesNumber (sym c.byte_at.ensures) more) in
    let all = counted_all ds len c.short_digits-len.ensures.digits stops in
    let needless : ((1 < len) × (slice_index ds 0 ≡ 48 → ⊥)) ⊎ (len ≤ 1) = elim c.if-len-gt1.branch [
      | then-len-gt1 w ↦ inl (omega (arith, w.if-len-gt1.true), λ zero. false≢true (sym c.if-digits-eq48.false ∙ w.value-is ∙ ap (λ b. b == 48) zero))
      | else-len-gt1 w ↦ inr (omega (arith, w.if-len-gt1.false))
    ] in
    let fits = value_fits ds len c.short_digits-len.result.1 c.short_digits-len.ensures.few all c.short_digits-len.ensures.value c.short_digits-len.ensures.below in
    let small : (c.byte_at-negative.result == 45) ≡ true → c.short_digits-len.result.1 < 2 ^ 63 = elim c.else-negative.branch [
      | else-negative-via-then-negative+else-magnitude w ↦ λ minus. omega (arith, w.if-magnitude.false)
      | else-negative-via-else-negative w ↦ λ minus. absurd (w.if-negative.false (eqb-true c.byte_at-negative.result 45 minus))
    ] in
    short_read size bs ds c.from.result len c.short_digits-len.result.1 (slice_index ds 0) c.byte_at-negative.result _ c.after_minus-digits.ensures c.byte_at-negative.ensures c.from.ensures c.if-len-eq0.false all stops needless refl c.short_digits-len.ensures.value (short_is (c.byte_at-negative.result == 45) c.short_digits-len.result.1 (c.from.result + len) (omega (arith, fits)) small)

pub returns-clause-first : goal.returns-clause-first
returns-clause-first c =
    let bs = c.args.bytes.now in
    let ds = c.after_minus-digits.result.now in
    let len = c.short_digits-len.result.0 in
    starts_here bs (omega (arith, c.if-len-eq0.false, ap digits_length c.after_minus-digits.ensures, c.short_digits-len.ensures.digits))

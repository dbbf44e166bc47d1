use Rattle.std.proofs.Common.{true, arith, sym, ap, ◌∙◌, subst, rules, ⊎_elim}
use Rattle.std.specs.Prelude.{FitsSigned, pos}
use Rattle.std.specs.Int.{w64, w128}
use Rattle.std.proofs.lemmas.Int.{to_z-of_z}
use Rattle.jsonb_spec.specs.Number.Signed.{signed_by}
use Rattle.jsonb_spec.specs.Grammar.ExtendedNumber.{decimal_number}
use Rattle.jsonb_spec.specs.Tree.{int64, decimal128}
use Rattle.text_scan.proofs.Numbers.Forms.{form_unsigned, form_signed, form_wide, negated_large, negated_small}
use Rattle.text_scan.proofs.parser.extended_number.form.short_integer.Goals as goal

pub returns-then-not-negative : goal.returns-then-not-negative
returns-then-not-negative c = λ precision small.
    form_unsigned precision c.args.magnitude (signed_by c.args.negative c.args.magnitude)
    (⊎_elim (λ no. ap (λ b. signed_by b c.args.magnitude) no) (λ both. ap (signed_by c.args.negative) both.1 ∙ (ap (λ b. signed_by b 0) both.0 ∙ ap pos (sym both.1))) c.then-not-negative.either)
    (omega (arith, c.ranges.magnitude))

pub returns-in-Ok : goal.returns-in-Ok
returns-in-Ok c = λ precision small.
    let wide : FitsSigned w128 c.with_sign-value.result = search rules in
    let same = to_z-of_z w128 c.with_sign-value.result wide in
    let h = rw same at c.in-Ok.ensures in
    let signed = c.with_sign-value.ensures ∙ ap (signed_by true) c.from.ensures in
    let fits : FitsSigned w64 c.in-Ok.value = subst (FitsSigned w64) (sym h.1) h.0 in
    ap (λ z. record { form = int64; scale = 0; whole = z }) (to_z-of_z w64 c.in-Ok.value fits ∙ (h.1 ∙ signed))
    ∙ (form_signed precision c.args.magnitude (omega (arith, c.if-magnitude-eq0.false)) (negated_small c.args.magnitude (subst (FitsSigned w64) signed h.0))
    ∙ ap (λ b. decimal_number 0 precision (signed_by b c.args.magnitude)) (sym c.if-not-negative.false))

pub returns-in-Err : goal.returns-in-Err
returns-in-Err c = λ precision small.
    let wide : FitsSigned w128 c.with_sign-value.result = search rules in
    let same = to_z-of_z w128 c.with_sign-value.result wide in
    let past = rw same at c.in-Err.ensures in
    let signed = c.with_sign-value.ensures ∙ ap (signed_by true) c.from.ensures in
    ap (λ z. record { form = decimal128; scale = 0; whole = z }) (same ∙ signed)
    ∙ (form_wide precision c.args.magnitude (negated_large c.args.magnitude (omega (arith, c.if-magnitude-eq0.false)) (λ fits. past (subst (FitsSigned w64) (sym signed) fits))) small
    ∙ ap (λ b. decimal_number 0 precision (signed_by b c.args.magnitude)) (sym c.if-not-negative.false))

use Rattle.std.proofs.Common.{arith, sym, ap, subst, ◌∙◌, Some, rules}
use Rattle.std.specs.Int.{w64, w128, cast_signed, cast_unsigned}
use Rattle.std.specs.Prelude.{FitsSigned, pos}
use Rattle.std.proofs.lemmas.Int.{to_z-of_z}
use Rattle.jsonb_spec.specs.Tree.{uint64, int64}
use Rattle.jsonb_spec.specs.Grammar.ExtendedNumber.{hexadecimal_number}
use Rattle.text_scan.proofs.Numbers.HexadecimalValues.{hexadecimal-unsigned, hexadecimal-unsigned_none, hexadecimal-signed, hexadecimal-signed_none, signed_fits_64, unsigned_wide_answer, signed_wide_answer}
use Rattle.text_scan.proofs.parser.extended_number.hexadecimal.hexadecimal.Goals as goal
use Rattle.text_scan.proofs.parser.extended_number.hexadecimal.hexadecimal.Goals.{then-not-negative+in_default, else-not-negative+else-magnitude}

pub returns-in-Ok : goal.returns-in-Ok
returns-in-Ok c =
    let h = c.in-Ok.ensures in
    ap (λ n. Some (record { form = uint64; scale = 0; whole = pos n })) h.1 ∙ sym (ap (λ b. hexadecimal_number b c.args.magnitude) c.if-not-negative.true ∙ hexadecimal-unsigned c.args.magnitude h.0)

pub returns-then-magnitude : goal.returns-then-magnitude
returns-then-magnitude c =
    let wide : FitsSigned w128 c.with_sign.result = search rules in
    let fits : FitsSigned w64 c.with_sign.result = subst (FitsSigned w64) (sym c.with_sign.ensures) (signed_fits_64 c.args.magnitude c.if-magnitude.true) in
    let same = to_z-of_z w128 c.with_sign.result wide in
    ap (λ z. Some (record { form = int64; scale = 0; whole = z })) (ap (λ x. cast_signed w64 (cast_unsigned w64 x)) same ∙ (to_z-of_z w64 c.with_sign.result fits ∙ c.with_sign.ensures))
    ∙ sym (ap (λ b. hexadecimal_number b c.args.magnitude) c.if-not-negative.false ∙ hexadecimal-signed c.args.magnitude c.if-magnitude.true)

pub returns-then-magnitude-ge-PAST_38_DIGITS : goal.returns-then-magnitude-ge-PAST_38_DIGITS
returns-then-magnitude-ge-PAST_38_DIGITS c =
    elim c.if-not-negative.branch [
      | then-not-negative+in_default w ↦ sym (ap (λ b. hexadecimal_number b c.args.magnitude) w.if-not-negative.true ∙ hexadecimal-unsigned_none c.args.magnitude c.if-magnitude-ge-PAST_38_DIGITS.true)
      | else-not-negative+else-magnitude w ↦ sym (ap (λ b. hexadecimal_number b c.args.magnitude) w.if-not-negative.false ∙ hexadecimal-signed_none c.args.magnitude c.if-magnitude-ge-PAST_38_DIGITS.true)
    ]

pub returns : goal.returns
returns c =
    let wide : FitsSigned w128 c.with_sign-2.result = search rules in
    let same = to_z-of_z w128 c.with_sign-2.result wide in
    elim c.if-not-negative.branch [
      | then-not-negative+in_default w ↦ unsigned_wide_answer c.args.negative c.args.magnitude _ (same ∙ c.with_sign-2.ensures) w.if-not-negative.true (omega (arith, w.in_default.ensures)) c.if-magnitude-ge-PAST_38_DIGITS.false
      | else-not-negative+else-magnitude w ↦ signed_wide_answer c.args.negative c.args.magnitude _ (same ∙ c.with_sign-2.ensures) w.if-not-negative.false w.if-magnitude.false c.if-magnitude-ge-PAST_38_DIGITS.false
    ]

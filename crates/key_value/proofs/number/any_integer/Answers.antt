use Rattle.std.proofs.Common.{Some, ap, arith, refl, rules, subst, sym, ◌*◌, ◌∙◌}
use Rattle.std.specs.Bool.{nat_lt}
use Rattle.std.specs.Int.{w64}
use Rattle.std.specs.Prelude.{FitsSigned}
use Rattle.std.proofs.lemmas.Int.{fits_signed_from_abs, to_z-of_z}
use Rattle.std.proofs.lemmas.Option.{same_Some}
use Rattle.jsonb_spec.specs.Number.Cast.{HasValue}
use Rattle.jsonb_spec.specs.Number.Signed.{signed_by}
use Rattle.key_value.proofs.Integers.{digits_found, exponent_found, parts_read, same_sign, same_value, signed_value, too_large, zero_value}
use Rattle.key_value.proofs.Signs.{some_bytes, zero_there}
use Rattle.key_value.proofs.Texts.{none_some}
use Rattle.key_value.proofs.Wholes.{magnitude_is, most, not_whole, power_most, zeros_most}
use Rattle.key_value.proofs.number.any_integer.Goals as goal

pub returns-in_err-first : goal.returns-in_err-first
returns-in_err-first c = λ n proper more e v. absurd (some_bytes n proper c.args.bytes.now more e c.in_err-first.ensures.cases)

pub returns-then-first : goal.returns-then-first
returns-then-first c = λ n proper more e v.
    let has = zero_value n (zero_there n proper c.in_ok-first.first.now c.in_ok-first.field-0-1.now c.args.bytes.now more c.in_ok-first.ensures.cases.0 c.if-first.true e) in (
      λ is. subst (λ w. HasValue n w × FitsSigned w64 w) (same_Some _ v is) (has, fits_signed_from_abs w64 _ (omega arith)),
      λ other. ap Some (same_value n _ v has other.0),
    )

pub returns-in_err-exponent : goal.returns-in_err-exponent
returns-in_err-exponent c = λ n proper more e v. absurd (exponent_found n proper c.in_ok-first.first.now c.in_ok-first.field-0-1.now c.args.bytes.now more c.in_ok-first.ensures.cases.0 c.if-first.false e c.in_err-exponent.ensures.exponent)

pub returns-in_err-digits : goal.returns-in_err-digits
returns-in_err-digits c = λ n proper more e v. absurd (digits_found n proper c.in_ok-first.first.now c.in_ok-first.field-0-1.now c.args.bytes.now more c.in_ok-first.ensures.cases.0 c.if-first.false e c.in_ok-exponent.exponent c.in_ok-exponent.rest.now c.in_ok-exponent.ensures.exponent (λ C M. ⊥) c.in_err-digits.ensures.found)

pub returns-in_err-zeros : goal.returns-in_err-zeros
returns-in_err-zeros c = λ n proper more e v.
    let parts = parts_read n proper c.in_ok-first.first.now c.in_ok-first.field-0-1.now c.args.bytes.now more c.in_ok-first.ensures.cases.0 c.if-first.false e c.in_ok-exponent.exponent c.in_ok-exponent.rest.now c.in_ok-exponent.ensures.exponent c.in_ok-digits.digits c.in_ok-digits.count c.in_ok-digits.ensures.found in (
      λ is. absurd (none_some v (sym c.from_residual-in_err-zeros.ensures ∙ is)),
      λ has. absurd (not_whole n c.in_ok-exponent.exponent c.in_ok-digits.digits c.in_ok-digits.count parts (omega (arith, c.in_err-zeros.ensures)) c.in_ok-digits.ensures.last v has.0),
    )

pub returns-in_err-power : goal.returns-in_err-power
returns-in_err-power c = λ n proper more e v.
    let parts = parts_read n proper c.in_ok-first.first.now c.in_ok-first.field-0-1.now c.args.bytes.now more c.in_ok-first.ensures.cases.0 c.if-first.false e c.in_ok-exponent.exponent c.in_ok-exponent.rest.now c.in_ok-exponent.ensures.exponent c.in_ok-digits.digits c.in_ok-digits.count c.in_ok-digits.ensures.found in
    absurd (c.in_err-power.ensures (omega (arith, power_most n c.in_ok-exponent.exponent c.in_ok-digits.digits c.in_ok-digits.count parts c.in_ok-zeros.zeros c.in_ok-zeros.ensures.1 c.in_ok-zeros.ensures.0, most n proper)))

pub returns-in_err-magnitude : goal.returns-in_err-magnitude
returns-in_err-magnitude c = λ n proper more e v.
    let parts = parts_read n proper c.in_ok-first.first.now c.in_ok-first.field-0-1.now c.args.bytes.now more c.in_ok-first.ensures.cases.0 c.if-first.false e c.in_ok-exponent.exponent c.in_ok-exponent.rest.now c.in_ok-exponent.ensures.exponent c.in_ok-digits.digits c.in_ok-digits.count c.in_ok-digits.ensures.found in
    absurd (c.in_err-magnitude.ensures (omega (arith, ap (λ p. c.in_ok-digits.digits * p) c.in_ok-power.ensures.1, zeros_most n c.in_ok-exponent.exponent c.in_ok-digits.digits c.in_ok-digits.count parts c.in_ok-zeros.zeros c.in_ok-zeros.ensures.1 c.in_ok-zeros.ensures.0, most n proper)))

pub returns-in_err-integer : goal.returns-in_err-integer
returns-in_err-integer c = λ n proper more e v.
    let parts = parts_read n proper c.in_ok-first.first.now c.in_ok-first.field-0-1.now c.args.bytes.now more c.in_ok-first.ensures.cases.0 c.if-first.false e c.in_ok-exponent.exponent c.in_ok-exponent.rest.now c.in_ok-exponent.ensures.exponent c.in_ok-digits.digits c.in_ok-digits.count c.in_ok-digits.ensures.found in
    let whole = magnitude_is n c.in_ok-exponent.exponent c.in_ok-digits.digits c.in_ok-digits.count parts c.in_ok-zeros.zeros c.in_ok-power.power c.in_ok-magnitude.magnitude c.in_ok-zeros.ensures.1 c.in_ok-zeros.ensures.0 c.in_ok-power.ensures.1 c.in_ok-magnitude.ensures.1 in
    let sign = nat_lt c.in_ok-first.first.now 128 in
    let value = signed_value n sign c.in_ok-magnitude.magnitude (signed_by sign c.in_ok-magnitude.magnitude) (same_sign n proper c.in_ok-first.first.now c.in_ok-first.field-0-1.now c.args.bytes.now more c.in_ok-first.ensures.cases.0 c.if-first.false e) whole refl in (
      λ is. absurd (none_some v (sym c.from_residual-in_err-integer.ensures ∙ is)),
      λ has. absurd (too_large sign c.in_ok-magnitude.magnitude v (same_value n v _ has.0 value) has.1 c.in_err-integer.ensures),
    )

pub returns : goal.returns
returns c = λ n proper more e v.
    let parts = parts_read n proper c.in_ok-first.first.now c.in_ok-first.field-0-1.now c.args.bytes.now more c.in_ok-first.ensures.cases.0 c.if-first.false e c.in_ok-exponent.exponent c.in_ok-exponent.rest.now c.in_ok-exponent.ensures.exponent c.in_ok-digits.digits c.in_ok-digits.count c.in_ok-digits.ensures.found in
    let whole = magnitude_is n c.in_ok-exponent.exponent c.in_ok-digits.digits c.in_ok-digits.count parts c.in_ok-zeros.zeros c.in_ok-power.power c.in_ok-magnitude.magnitude c.in_ok-zeros.ensures.1 c.in_ok-zeros.ensures.0 c.in_ok-power.ensures.1 c.in_ok-magnitude.ensures.1 in
    let integer = c.in_ok-integer.integer in
    let fits : FitsSigned w64 integer = search rules in
    let same = to_z-of_z w64 integer fits in
    let has : HasValue n integer = signed_value n (nat_lt c.in_ok-first.first.now 128) c.in_ok-magnitude.magnitude integer (same_sign n proper c.in_ok-first.first.now c.in_ok-first.field-0-1.now c.args.bytes.now more c.in_ok-first.ensures.cases.0 c.if-first.false e) whole c.in_ok-integer.ensures in (
      λ is. subst (λ w. HasValue n w × FitsSigned w64 w) (sym same ∙ same_Some _ v is) (has, fits),
      λ other. ap Some (same ∙ same_value n integer v has other.0),
    )

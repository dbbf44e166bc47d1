use Rattle.std.proofs.Common.{arith, refl, rules, subst, sym}
use Rattle.std.specs.Bool.{nat_lt}
use Rattle.std.specs.Int.{w64}
use Rattle.std.specs.Prelude.{FitsSigned}
use Rattle.std.proofs.lemmas.Int.{to_z-of_z}
use Rattle.jsonb_spec.specs.SortKey.Decimals.{HasFewDigits}
use Rattle.key_value.proofs.Decimals.{few_digits, many_digits, no_answer, some_point, zero_digits}
use Rattle.key_value.proofs.Integers.{digits_found, exponent_found, parts_read, same_sign}
use Rattle.key_value.proofs.Signs.{some_bytes, zero_there}
use Rattle.key_value.proofs.number.decimal_of.Goals as goal

pub returns-in_err-first : goal.returns-in_err-first
returns-in_err-first c = λ n proper more e. absurd (some_bytes n proper c.args.bytes.now more e c.in_err-first.ensures.cases)

pub returns-then-first : goal.returns-then-first
returns-then-first c = λ n proper more e.
    zero_digits n (zero_there n proper c.in_ok-first.first.now c.in_ok-first.field-0-1.now c.args.bytes.now more c.in_ok-first.ensures.cases.0 c.if-first.true e)

pub returns-in_err-exponent : goal.returns-in_err-exponent
returns-in_err-exponent c = λ n proper more e. absurd (exponent_found n proper c.in_ok-first.first.now c.in_ok-first.field-0-1.now c.args.bytes.now more c.in_ok-first.ensures.cases.0 c.if-first.false e c.in_err-exponent.ensures.exponent)

pub returns-in_err-digits : goal.returns-in_err-digits
returns-in_err-digits c = λ n proper more e.
    absurd (digits_found n proper c.in_ok-first.first.now c.in_ok-first.field-0-1.now c.args.bytes.now more c.in_ok-first.ensures.cases.0 c.if-first.false e c.in_ok-exponent.exponent c.in_ok-exponent.rest.now c.in_ok-exponent.ensures.exponent (λ C M. ⊥) c.in_err-digits.ensures.found)

pub returns-in_err-magnitude : goal.returns-in_err-magnitude
returns-in_err-magnitude c = λ n proper more e.
    let parts = parts_read n proper c.in_ok-first.first.now c.in_ok-first.field-0-1.now c.args.bytes.now more c.in_ok-first.ensures.cases.0 c.if-first.false e c.in_ok-exponent.exponent c.in_ok-exponent.rest.now c.in_ok-exponent.ensures.exponent c.in_ok-digits.digits c.in_ok-digits.count c.in_ok-digits.ensures.found in
    let p = some_point c.in_ok-digits.digits c.in_ok-digits.count c.in_ok-exponent.exponent in
    no_answer _ c.from_residual-in_err-magnitude.result c.from_residual-in_err-magnitude.ensures
    (many_digits n c.in_ok-exponent.exponent c.in_ok-digits.digits c.in_ok-digits.count parts c.in_ok-digits.ensures.last p.0 p.1 p.2 (c.in_err-magnitude.ensures p.0 p.1 p.2))

pub returns-in_err-digits-2 : goal.returns-in_err-digits-2
returns-in_err-digits-2 c = λ n proper more e. absurd (omega (arith, c.in_err-digits-2.ensures.large refl, c.in_ok-magnitude.ensures.1))

pub returns : goal.returns
returns c = λ n proper more e.
    let parts = parts_read n proper c.in_ok-first.first.now c.in_ok-first.field-0-1.now c.args.bytes.now more c.in_ok-first.ensures.cases.0 c.if-first.false e c.in_ok-exponent.exponent c.in_ok-exponent.rest.now c.in_ok-exponent.ensures.exponent c.in_ok-digits.digits c.in_ok-digits.count c.in_ok-digits.ensures.found in
    let sign = nat_lt c.in_ok-first.first.now 128 in
    let same = same_sign n proper c.in_ok-first.first.now c.in_ok-first.field-0-1.now c.args.bytes.now more c.in_ok-first.ensures.cases.0 c.if-first.false e in
    let fits : FitsSigned w64 c.in_ok-digits-2.digits = search rules in
    subst (λ d. HasFewDigits n d c.in_ok-magnitude.scale) (sym (to_z-of_z w64 c.in_ok-digits-2.digits fits))
    (few_digits n c.in_ok-exponent.exponent c.in_ok-digits.digits c.in_ok-digits.count parts c.in_ok-digits.ensures.last c.in_ok-magnitude.magnitude c.in_ok-magnitude.scale c.in_ok-magnitude.ensures.0 sign same c.in_ok-magnitude.ensures.1 c.in_ok-digits-2.digits c.in_ok-digits-2.ensures.signed)

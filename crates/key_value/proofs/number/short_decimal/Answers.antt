use Rattle.std.proofs.Common.{refl, rules, subst, sym}
use Rattle.std.specs.Bool.{nat_lt}
use Rattle.std.specs.Int.{w64}
use Rattle.std.specs.Prelude.{FitsSigned}
use Rattle.std.proofs.lemmas.Int.{to_z-of_z}
use Rattle.jsonb_spec.specs.SortKey.Decimals.{HasFewDigits}
use Rattle.jsonb_spec.specs.SortKey.Reading.{IsPointed}
use Rattle.key_value.proofs.Decimals.{few_digits}
use Rattle.key_value.proofs.Integers.{parts_read, same_sign}
use Rattle.key_value.proofs.number.short_decimal.Goals as goal

pub returns : goal.returns
returns c = λ n proper more e.
    let parts = parts_read n proper c.in_ok-first.first.now c.in_ok-first.field-0-1.now c.args.bytes.now more c.in_ok-first.ensures.cases.0 c.if-first.false e c.in_ok-exponent.exponent c.in_ok-exponent.rest.now c.in_ok-exponent.ensures.exponent c.in_ok-digits.digits c.in_ok-digits.count c.in_ok-digits.ensures.found in
    let sign = nat_lt c.in_ok-first.first.now 128 in
    let same = same_sign n proper c.in_ok-first.first.now c.in_ok-first.field-0-1.now c.args.bytes.now more c.in_ok-first.ensures.cases.0 c.if-first.false e in
    let point : IsPointed c.in_ok-digits.digits c.in_ok-digits.count c.in_ok-exponent.exponent c.in_ok-whole.whole c.in_ok-whole.scale =
    subst (λ d. IsPointed d c.in_ok-digits.count c.in_ok-exponent.exponent c.in_ok-whole.whole c.in_ok-whole.scale) c.from.ensures c.in_ok-whole.ensures.0 in
    let fits : FitsSigned w64 c.in_ok-digits-2.digits = search rules in
    subst (λ d. HasFewDigits n d c.in_ok-whole.scale) (sym (to_z-of_z w64 c.in_ok-digits-2.digits fits))
    (few_digits n c.in_ok-exponent.exponent c.in_ok-digits.digits c.in_ok-digits.count parts c.in_ok-digits.ensures.last c.in_ok-whole.whole c.in_ok-whole.scale point sign same c.in_ok-whole.ensures.1 c.in_ok-digits-2.digits c.in_ok-digits-2.ensures.signed)

use Rattle.std.proofs.Common.{◌≡◌, ◌+◌, ◌-◌, ◌<◌, ◌^◌, ap, subst, arith, ◌∙◌, drop, take}
use Rattle.std.specs.Option.{SomeIff}
use Rattle.std.specs.Str.Parse.{digits_value, digits_value_after}
use Rattle.jsonb_spec.specs.Parsing.Number.{digits_length}
use Rattle.text_scan.proofs.Numbers.DigitValues.{value_from_front}
use Rattle.text_scan.proofs.parser.number.leading_digits.Goals as goal

pub returns-clause-value : goal.returns-clause-value
returns-clause-value c =
    let bytes = c.args.bytes.now in
    let few = c.short_digits-few.result.0 in
    let more = c.digits_end-len.result - few in
    let all : few + more ≡ digits_length bytes = omega (arith, c.short_digits-few.ensures.digits, c.digits_end-len.ensures.end) in
    let value = ap (λ v. digits_value_after 10 v (take more (drop few bytes))) (c.from.ensures ∙ c.short_digits-few.ensures.value) ∙ value_from_front 10 bytes few more ∙ ap (λ n. digits_value 10 (take n bytes)) all in
    subst (λ v. SomeIff c.number_after.result (v < 2 ^ 128) v) value c.number_after.ensures

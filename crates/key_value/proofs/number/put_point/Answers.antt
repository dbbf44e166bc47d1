use Rattle.std.proofs.Common.{◌^◌, inl, inr, arith}
use Rattle.std.proofs.lemmas.Bool.{cases_lt}
use Rattle.key_value.proofs.Decimals.{most_digits, most_power, no_answer}
use Rattle.key_value.proofs.number.put_point.Goals as goal

pub returns-in_err-digits : goal.returns-in_err-digits
returns-in_err-digits c =
    no_answer _ c.from_residual.result c.from_residual.ensures
    (λ whole scale p. omega (arith, c.in_err-digits.ensures, most_digits c.args.digits c.args.count c.args.exponent whole scale p))

pub returns-in_err-power : goal.returns-in_err-power
returns-in_err-power c =
    no_answer _ c.from_residual-in_err-power.result c.from_residual-in_err-power.ensures
    (λ whole scale p. elim (cases_lt whole (10 ^ 18)) [
      | inl less ↦ absurd (c.in_err-power.ensures (omega (arith, less, most_power c.args.digits c.args.count c.args.exponent whole scale c.requires.last p (omega (arith, c.if-exponent-count.false)))))
      | inr most ↦ most
    ])

use Rattle.std.proofs.Common.{◌≡◌, ◌^◌, arith}
use Rattle.jsonb_core.proofs.Numbers.Quotients.{ten_past_128_bits, ten_positive}
use Rattle.jsonb_core.proofs.number.cast.power_of.Goals as goal

pub returns-then-scale-gt38-clause-none : goal.returns-then-scale-gt38-clause-none
returns-then-scale-gt38-clause-none c = ten_past_128_bits c.args.scale (omega (arith, c.if-scale-gt38.true))

pub returns-clause-some : goal.returns-clause-some
returns-clause-some c =
    let same : c.power_of_ten.result ≡ 10 ^ c.args.scale = grind (arith, c.power_of_ten.ensures, c.from.ensures) in
    (same, rw same (ten_positive c.args.scale))

use Rattle.std.proofs.Common.{bit_or, arith}
use Rattle.std.proofs.lemmas.Nat.{le_or_l, le_or_r, or_lt}
use Rattle.text_scan.proofs.util.decoder.unit.any_of.Goals as goal

pub returns-clause-above : goal.returns-clause-above
returns-clause-above c =
    let two = bit_or c.args.first c.args.second in
    let three = bit_or two c.args.third in (
      omega (arith, le_or_l c.args.first c.args.second, le_or_l two c.args.third, le_or_l three c.args.fourth),
      omega (arith, le_or_r c.args.first c.args.second, le_or_l two c.args.third, le_or_l three c.args.fourth),
      omega (arith, le_or_r two c.args.third, le_or_l three c.args.fourth),
      omega (arith, le_or_r three c.args.fourth),
    )

pub returns-clause-below : goal.returns-clause-below
returns-clause-below c p q r s = or_lt 4 _ c.args.fourth (or_lt 4 _ c.args.third (or_lt 4 c.args.first c.args.second p q) r) s

use Rattle.std.proofs.Common.{◌==◌, ap, arith}
use Rattle.text_scan.proofs.Numbers.VerbatimDecimals.{signed_decimal}
use Rattle.text_scan.proofs.Numbers.Steps.{starts_here}
use Rattle.text_scan.proofs.parser.verbatim.verbatim_decimal.Goals as goal

pub returns-clause-decimal : goal.returns-clause-decimal
returns-clause-decimal c =
    signed_decimal c.args.bytes.now c.after_minus.result.now c.from.result c.in_ok-len.len (c.byte_at-negative.result == 45) c.after_minus.ensures (ap (λ b. b == 45) c.byte_at-negative.ensures) c.from.ensures c.in_ok-len.ensures.found

pub returns-clause-first : goal.returns-clause-first
returns-clause-first c = starts_here c.args.bytes.now (omega (arith, c.requires.point.some, c.requires.point.digits))

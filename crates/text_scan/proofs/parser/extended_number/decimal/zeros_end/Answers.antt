use Rattle.std.proofs.Common.{arith}
use Rattle.std.proofs.lemmas.List.{get_or_past}
use Rattle.jsonb_spec.specs.Parsing.ExtendedNumber.{zeros_from}
use Rattle.text_scan.proofs.Numbers.DecimalScan.{zeros_go_on, zeros_end_here}
use Rattle.text_scan.proofs.parser.extended_number.decimal.zeros_end.Goals as goal

pub zeros-preserved : goal.zeros-preserved
zeros-preserved c =
    (omega arith, zeros_go_on c.args.bytes.now c.zeros.end (zeros_from c.args.bytes.now c.args.start) c.if-bytes-end-eq48.true c.zeros.invariant.1)

pub returns-else-bytes-end-eq48-clause-end : goal.returns-else-bytes-end-eq48-clause-end
returns-else-bytes-end-eq48-clause-end c = zeros_end_here c.args.bytes.now c.zeros.end (zeros_from c.args.bytes.now c.args.start) c.if-bytes-end-eq48.false c.zeros.invariant.1

pub returns-after-zeros-clause-end : goal.returns-after-zeros-clause-end
returns-after-zeros-clause-end c =
    zeros_end_here c.args.bytes.now c.zeros.end (zeros_from c.args.bytes.now c.args.start) (λ zero_byte. omega (arith, zero_byte, get_or_past c.args.bytes.now c.zeros.end 0 c.zeros-test.false)) c.zeros.invariant.1

use Rattle.std.proofs.Common.{ap}
use Rattle.text_scan.specs.ScannedNumber.{number_views}
use Rattle.jsonb_spec.specs.Parsing.ExactNumber.{right_at, left_at}
use Rattle.text_scan.proofs.Numbers.ExactRead.{value_is, front_past, all_past}
use Rattle.text_scan.proofs.parser.exact.exact_value.Goals as goal

pub returns-in_err-front : goal.returns-in_err-front
returns-in_err-front c = front_past c.args.bytes.now c.args.ends c.args.end _ c.requires.ends c.in_err-front.ensures (ap number_views c.from_residual.ensures)

pub returns-in_err-magnitude : goal.returns-in_err-magnitude
returns-in_err-magnitude c = all_past c.args.bytes.now c.args.ends c.args.end c.in_ok-front.front _ c.requires.ends c.in_ok-front.ensures.1 c.in_err-magnitude.ensures (ap number_views c.from_residual-in_err-magnitude.ensures)

pub returns : goal.returns
returns c =
    let right = right_at c.args.bytes.now c.args.ends.behind_end c.args.end in
    let left = left_at c.args.bytes.now c.args.ends.behind_end c.args.end in
    value_is c.args.bytes.now c.args.ends c.args.end c.byte_at-negative.result c.in_ok-front.front c.in_ok-magnitude.magnitude _ c.requires.ends c.in_ok-front.ensures.1 c.in_ok-magnitude.ensures.1 c.byte_at-negative.ensures (c.moved.ensures right left c.shift_between-shift.ensures)

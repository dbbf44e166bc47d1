use Rattle.std.proofs.Common.{refl, ap}
use Rattle.text_scan.specs.ScannedNumber.{number_views}
use Rattle.text_scan.proofs.Numbers.Moving.{moved_deep, moved_left, moved_short, moved_great, moved_far}
use Rattle.text_scan.proofs.parser.exact.moved.Goals as goal

pub returns-then-shift-gt-MOST_DIGITS : goal.returns-then-shift-gt-MOST_DIGITS
returns-then-shift-gt-MOST_DIGITS c = λ right left shifts. moved_deep _ c.args.negative c.args.magnitude c.args.behind c.args.shift right left c.if-shift.true c.if-shift-gt-MOST_DIGITS.true shifts refl

pub returns-then-shift : goal.returns-then-shift
returns-then-shift c = λ right left shifts. moved_left _ c.args.negative c.args.magnitude c.args.behind c.args.shift right left c.if-shift.true c.if-shift-gt-MOST_DIGITS.false shifts c.in_range.ensures

pub returns-then-shift-behind : goal.returns-then-shift-behind
returns-then-shift-behind c = λ right left shifts. moved_short _ c.args.negative c.args.magnitude c.args.behind c.args.shift right left c.requires c.if-shift.false c.if-shift-behind.true shifts c.in_range-then-shift-behind.ensures

pub returns-in_err-whole : goal.returns-in_err-whole
returns-in_err-whole c = λ right left shifts. moved_great _ c.args.negative c.args.magnitude c.args.behind c.args.shift right left c.requires c.if-shift.false c.if-shift-behind.false shifts c.in_err-whole.ensures.value (ap number_views c.from_residual.ensures)

pub returns : goal.returns
returns c = λ right left shifts. moved_far _ c.args.negative c.args.magnitude c.args.behind c.args.shift right left c.in_ok-whole.whole c.requires c.if-shift.false c.if-shift-behind.false shifts c.in_ok-whole.ensures.value c.in_ok-whole.ensures.within c.in_range-2.ensures

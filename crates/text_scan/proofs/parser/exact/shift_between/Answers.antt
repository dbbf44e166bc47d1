use Rattle.std.proofs.Common.{arith, ◌+◌}
use Rattle.text_scan.proofs.Numbers.ExactRead.{exponent_later}
use Rattle.text_scan.proofs.Numbers.Steps.{sign_end_ge}
use Rattle.text_scan.proofs.parser.exact.shift_between.Goals as goal

pub sign_end-digits-requires : goal.sign_end-digits-requires
sign_end-digits-requires c = omega (arith, exponent_later c.args.bytes.now c.args.start c.args.end c.requires.within.0 c.requires.exponent c.if-start-end.false, sign_end_ge c.args.bytes.now (c.args.start + 1), c.requires.within.1)

pub slice_bounds-number_after-count : goal.slice_bounds-number_after-count
slice_bounds-number_after-count c = omega (arith, exponent_later c.args.bytes.now c.args.start c.args.end c.requires.within.0 c.requires.exponent c.if-start-end.false, c.sign_end-digits.ensures.end)

pub slice_bounds-number_after-start : goal.slice_bounds-number_after-start
slice_bounds-number_after-start c = omega (arith, exponent_later c.args.bytes.now c.args.start c.args.end c.requires.within.0 c.requires.exponent c.if-start-end.false, c.sign_end-digits.ensures.end)

use Rattle.std.proofs.Common.{◌+◌, ◌-◌, arith, ap, drop, take}
use Rattle.std.specs.Prelude.{slice_range}
use Rattle.std.proofs.lemmas.List.{take_rest}
use Rattle.text_scan.proofs.Numbers.VerbatimDecimals.{decimal_body}
use Rattle.text_scan.proofs.parser.verbatim.decimal_len.Goals as goal

pub returns-clause-found : goal.returns-clause-found
returns-clause-found c =
    let bytes = c.args.bytes.now in
    let front = c.args.front in
    let back = c.digits_and_next-behind.result.0 in
    decimal_body c.args.negative bytes (slice_range bytes (front + 1) (front + 1 + back)) front back c.requires.point c.requires.some c.requires.digits (rw (take_rest bytes (front + 1)) at c.digits_and_next-behind.ensures.digits)
    (omega (arith, c.if-behind-eq0.false)) (omega (arith, c.if-front-behind-gt-MOST_DIGITS.false)) c.if-not-may_begin.ensures (ap (λ n. take n (drop (front + 1) bytes)) {x = front + 1 + back - (front + 1)} {y = back} (omega arith)) c.if-not-may_have_sign.ensures

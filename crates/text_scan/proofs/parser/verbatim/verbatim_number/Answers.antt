use Rattle.std.proofs.Common.{◌==◌, sym, subst, ap, arith}
use Rattle.jsonb_spec.specs.Parsing.Number.{ContinuesNumber, digits_length}
use Rattle.text_scan.proofs.Numbers.Verbatim.{verbatim_read}
use Rattle.text_scan.proofs.Numbers.VerbatimDecimals.{counted_before, signed_decimal}
use Rattle.text_scan.proofs.Numbers.Steps.{starts_here}
use Rattle.text_scan.proofs.parser.verbatim.verbatim_number.Goals as goal

pub returns-then-is_separator-clause-integer : goal.returns-then-is_separator-clause-integer
returns-then-is_separator-clause-integer c = λ e.
    let ds = c.after_minus-digits.result.now in
    let len = c.digits_and_next-len.result.0 in
    verbatim_read c.args.bytes.now ds c.from-start.result len c.byte_at-negative.result c.after_minus-digits.ensures c.byte_at-negative.ensures c.from-start.ensures c.if-len-eq0.false c.digits_and_next-len.ensures.digits
    (λ more. c.if-is_separator.ensures.apart (subst ContinuesNumber (sym c.digits_and_next-len.ensures.next) more)) c.if-start-len-gt19.false c.if-not-may_begin.ensures

pub returns-then-is_separator-clause-first : goal.returns-then-is_separator-clause-first
returns-then-is_separator-clause-first c =
    starts_here c.args.bytes.now (omega (arith, c.if-len-eq0.false, ap digits_length c.after_minus-digits.ensures, c.digits_and_next-len.ensures.digits))

pub returns-clause-decimal : goal.returns-clause-decimal
returns-clause-decimal c = λ e.
    signed_decimal c.args.bytes.now c.after_minus-digits.result.now c.from-start.result c.in_ok-len.len (c.byte_at-negative.result == 45) c.after_minus-digits.ensures (ap (λ b. b == 45) c.byte_at-negative.ensures) c.from-start.ensures c.in_ok-len.ensures.found

pub returns-clause-first : goal.returns-clause-first
returns-clause-first c =
    starts_here c.args.bytes.now (omega (arith, c.if-len-eq0.false, ap digits_length c.after_minus-digits.ensures, c.digits_and_next-len.ensures.digits))

pub decimal_len-requires-clause-digits : goal.decimal_len-requires-clause-digits
decimal_len-requires-clause-digits c =
    counted_before c.after_minus-digits.result.now c.digits_and_next-len.result.0 c.digits_and_next-len.result.1 c.digits_and_next-len.ensures.digits c.digits_and_next-len.ensures.next c.if-next-ne46.false

use Rattle.std.proofs.Common.{◌∙◌, unsigned_abs, arith}
use Rattle.std.specs.Bool.{nat_lt}
use Rattle.key_value.proofs.Signs.{signed_read, some_bytes, is_exponent, some_exponent}
use Rattle.key_value.proofs.Wholes.{most}
use Rattle.key_document.proofs.MostZeros.{most_are, zero_most}
use Rattle.key_text.proofs.KeyNumbers.{zero_there}
use Rattle.key_document.proofs.check.most_zeros.Goals as goal

pub returns-in_default : goal.returns-in_default
returns-in_default c = λ n proper more e. absurd (some_bytes n proper c.args.bytes.now more e c.in_default.ensures.cases)

pub returns-then-first : goal.returns-then-first
returns-then-first c = λ n proper more e.
    zero_most n (zero_there n proper c.in-Some.first.now c.in-Some.field-0-1.now c.args.bytes.now more c.in-Some.ensures.cases.0 c.if-first.true e)

pub returns-in_default-read_exponent : goal.returns-in_default-read_exponent
returns-in_default-read_exponent c = λ n proper more e.
    absurd (some_exponent n (nat_lt c.in-Some.first.now 128) c.args.bytes.now more (signed_read n proper c.in-Some.first.now c.in-Some.field-0-1.now c.args.bytes.now more c.in-Some.ensures.cases.0 c.if-first.false e) c.in_default-read_exponent.ensures.exponent)

pub returns-in_default-digit_count : goal.returns-in_default-digit_count
returns-in_default-digit_count c = λ n proper more e.
    let s = signed_read n proper c.in-Some.first.now c.in-Some.field-0-1.now c.args.bytes.now more c.in-Some.ensures.cases.0 c.if-first.false e in
    let at = is_exponent n (nat_lt c.in-Some.first.now 128) c.args.bytes.now more s c.in-Some-read_exponent.exponent c.in-Some-read_exponent.digits.now c.in-Some-read_exponent.ensures.exponent in
    absurd (c.in_default-digit_count.ensures.found s.count (unsigned_abs n.whole) s.below s.some (most n proper) s.few more at.1)

pub returns : goal.returns
returns c = λ n proper more e.
    let s = signed_read n proper c.in-Some.first.now c.in-Some.field-0-1.now c.args.bytes.now more c.in-Some.ensures.cases.0 c.if-first.false e in
    let at = is_exponent n (nat_lt c.in-Some.first.now 128) c.args.bytes.now more s c.in-Some-read_exponent.exponent c.in-Some-read_exponent.digits.now c.in-Some-read_exponent.ensures.exponent in
    let x = c.in-Some-digit_count.ensures.found s.count (unsigned_abs n.whole) s.below s.some (most n proper) s.few more at.1 in
    omega (arith, c.saturating_sub.ensures, c.saturating_sub-behind.ensures, c.saturating_sub-before.ensures)
    ∙ most_are n s.count c.in-Some-digit_count.count s.below s.least s.some s.few x c.in-Some-read_exponent.exponent (omega (arith, at.0, s.is_exponent_key))

use Rattle.text_scan.proofs.Strings.Strict.{alike, control_rejected, braces_cut, braces_rejected}
use Rattle.text_scan.proofs.util.decoder.strict.strict_fault.Goals as goal

pub returns-then-byte-lt32-clause-some : goal.returns-then-byte-lt32-clause-some
returns-then-byte-lt32-clause-some c = control_rejected c.args.byte c.args.rest.now c.if-byte-lt32.true

pub returns-then-byte-ne92-clause-none : goal.returns-then-byte-ne92-clause-none
returns-then-byte-ne92-clause-none c = alike c.args.byte c.args.rest.now c.if-byte-lt32.false (λ is. absurd (c.if-byte-ne92.true is))

pub returns-in_default-clause-none : goal.returns-in_default-clause-none
returns-in_default-clause-none c = alike c.args.byte c.args.rest.now c.if-byte-lt32.false (λ is. c.in_default.ensures.none)

pub returns-then-more-lt3-clause-some : goal.returns-then-more-lt3-clause-some
returns-then-more-lt3-clause-some c = braces_cut c.args.byte c.args.rest.now c.in-Some.more.now c.if-byte-ne92.false c.in-Some.ensures.some c.if-more-lt3.true

pub returns-clause-some : goal.returns-clause-some
returns-clause-some c = braces_rejected c.args.byte c.args.rest.now c.in-Some.more.now c.if-byte-ne92.false c.in-Some.ensures.some c.if-more-lt3.false

use Rattle.std.proofs.Common.{inl, inr, ⊎_elim}
use Rattle.std.proofs.lemmas.List.{take_rest}
use Rattle.text_scan.proofs.Numbers.ExactRead.{no_exponent_read, exponent_read, exponent_within}
use Rattle.text_scan.proofs.parser.exact.read_exponent.Goals as goal

pub returns-then-mark-ne69-clause-end : goal.returns-then-mark-ne69-clause-end
returns-then-mark-ne69-clause-end c = no_exponent_read c.args.bytes.now c.args.start c.byte_at-mark.result c.byte_at-mark.ensures c.if-mark-ne101.true c.if-mark-ne69.true

pub returns-clause-end : goal.returns-clause-end
returns-clause-end c =
    exponent_read c.args.bytes.now _ c.args.start c.byte_at-mark.result c.sign_end-digits.result c.in_ok-few.few.len c.byte_at-mark.ensures (⊎_elim (λ w. inr w.1) inl c.else-mark-ne101.either) c.sign_end-digits.ensures.end (take_rest c.args.bytes.now c.sign_end-digits.result) c.in_ok-few.ensures.len c.if-few-eq0.false

pub returns-clause-within : goal.returns-clause-within
returns-clause-within c = exponent_within c.args.bytes.now _ c.sign_end-digits.result c.in_ok-few.few.len c.sign_end-digits.ensures.within (take_rest c.args.bytes.now c.sign_end-digits.result) c.in_ok-few.ensures.len

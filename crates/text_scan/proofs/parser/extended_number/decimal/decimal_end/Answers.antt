use Rattle.std.proofs.Common.{sym, ◌∙◌, inl, inr}
use Rattle.text_scan.proofs.Numbers.Scanned.{NoSecondPoint, no_digits_end, second_point_end, exponent_due}
use Rattle.text_scan.proofs.parser.extended_number.decimal.decimal_end.Goals as goal
use Rattle.text_scan.proofs.parser.extended_number.decimal.decimal_end.Goals.{else-ends-via-then-ends+then-ends-scale-lt-DIGITS_BEFORE_POINT+else-byte_at-eq46, else-ends-via-then-ends+else-ends-scale-lt-DIGITS_BEFORE_POINT, else-ends-via-else-ends}

pub returns-then-ends-scale-eq0-clause-end : goal.returns-then-ends-scale-eq0-clause-end
returns-then-ends-scale-eq0-clause-end c = sym (no_digits_end c.args.bytes.now c.args.ends c.requires c.if-ends-scale-eq0.true)

pub returns-then-byte_at-eq46-clause-end : goal.returns-then-byte_at-eq46-clause-end
returns-then-byte_at-eq46-clause-end c =
    sym (second_point_end c.args.bytes.now c.args.ends c.byte_at.result c.requires c.if-ends-scale-eq0.false c.if-ends.true c.if-ends-scale-lt-DIGITS_BEFORE_POINT.true c.byte_at.ensures c.if-byte_at-eq46.true)

pub returns-clause-end : goal.returns-clause-end
returns-clause-end c =
    let once : NoSecondPoint c.args.bytes.now c.args.ends = elim c.else-ends.branch [
      | else-ends-via-then-ends+then-ends-scale-lt-DIGITS_BEFORE_POINT+else-byte_at-eq46 w ↦ inr (inr (λ p. w.if-byte_at-eq46.false (w.byte_at.ensures ∙ p)))
      | else-ends-via-then-ends+else-ends-scale-lt-DIGITS_BEFORE_POINT w ↦ inr (inl w.if-ends-scale-lt-DIGITS_BEFORE_POINT.false)
      | else-ends-via-else-ends w ↦ inl w.if-ends.false
    ] in
    exponent_due c.args.bytes.now c.args.ends c.exponent_end.result c.requires c.if-ends-scale-eq0.false once c.exponent_end.ensures.end

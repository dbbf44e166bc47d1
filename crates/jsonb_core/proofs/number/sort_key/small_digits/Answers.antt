use Rattle.std.proofs.Common.{sym, ap, ◌∙◌, arith}
use Rattle.std.proofs.Math.Nat.{pow-suc, pow-zero}
use Rattle.jsonb_spec.specs.SortKey.{digits_key}
use Rattle.jsonb_core.proofs.SortKeys.Counts.{digit_count-is}
use Rattle.jsonb_core.proofs.SortKeys.Pairs.{single_digit, two_digits}
use Rattle.jsonb_core.proofs.number.sort_key.small_digits.Goals as goal

pub returns-then-magnitude-lt10-clause-count : goal.returns-then-magnitude-lt10-clause-count
returns-then-magnitude-lt10-clause-count c =
    sym (digit_count-is c.args.magnitude 0 (omega (arith, c.requires, pow-zero 10)) (omega (arith, c.if-magnitude-lt10.true, pow-zero 10)) (omega arith))

pub returns-then-magnitude-lt10-clause-digits : goal.returns-then-magnitude-lt10-clause-digits
returns-then-magnitude-lt10-clause-digits c =
    let count = digit_count-is c.args.magnitude 0 (omega (arith, c.requires, pow-zero 10)) (omega (arith, c.if-magnitude-lt10.true, pow-zero 10)) (omega arith) in
    sym (ap (λ n. digits_key n c.args.magnitude) count ∙ single_digit c.args.magnitude)

pub returns-else-magnitude-lt10-clause-count : goal.returns-else-magnitude-lt10-clause-count
returns-else-magnitude-lt10-clause-count c =
    sym (digit_count-is c.args.magnitude 1 (omega (arith, c.if-magnitude-lt10.false, pow-suc 10 0, pow-zero 10)) (omega (arith, c.requires, pow-suc 10 0, pow-zero 10)) (omega arith))

pub returns-else-magnitude-lt10-clause-digits : goal.returns-else-magnitude-lt10-clause-digits
returns-else-magnitude-lt10-clause-digits c =
    let count = digit_count-is c.args.magnitude 1 (omega (arith, c.if-magnitude-lt10.false, pow-suc 10 0, pow-zero 10)) (omega (arith, c.requires, pow-suc 10 0, pow-zero 10)) (omega arith) in
    sym (ap (λ n. digits_key n c.args.magnitude) count ∙ two_digits c.args.magnitude)

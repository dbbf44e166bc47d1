use Rattle.std.proofs.Common.{◌≡◌, ◌*◌, ◌%◌, [], ◌∷◌, sym, ap, ◌∙◌, arith}
use Rattle.jsonb_core.proofs.SortKeys.Pairs.{two_digits, single_digit}
use Rattle.jsonb_core.proofs.number.sort_key.split_last.Goals as goal

pub returns-then-count-eq0-clause-last : goal.returns-then-count-eq0-clause-last
returns-then-count-eq0-clause-last c =
    rw c.if-count-eq0.true (sym (two_digits (c.args.magnitude % 100)))

pub returns-else-count-eq0-clause-last : goal.returns-else-count-eq0-clause-last
returns-else-count-eq0-clause-last c =
    let odd : c.args.count % 2 ≡ 1 = omega (arith, c.if-count-eq0.false) in
    rw odd (ap (λ b. b ∷ []) {x = 2 * (10 * (c.args.magnitude % 10))} (omega arith) ∙ sym (single_digit (c.args.magnitude % 10)))

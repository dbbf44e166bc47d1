use Rattle.std.proofs.Common.{get_or, eq-eqb, arith, ◌∙◌}
use Rattle.key_walk.proofs.AfterTexts.{is_zero}
use Rattle.key_walk.proofs.Strings.{plain_is}
use Rattle.key_walk.proofs.text.plain_text.Goals as goal

pub returns-in-1-clause-plain : goal.returns-in-1-clause-plain
returns-in-1-clause-plain c = λ text e.
    let found = c.in_ok-zero.ensures in
    c.split_at.ensures.front ∙ plain_is text c.args.key.now c.in_ok-zero.zero e
    (λ k l h. found.0.before k (omega arith) l (eq-eqb (get_or c.args.key.now k 0) 0 h))
    (is_zero (get_or c.args.key.now c.in_ok-zero.zero 0) found.1)
    (omega (arith, c.split_at.ensures.back_len, c.in-1.len_at_least, c.in-1.len_below))

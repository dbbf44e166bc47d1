use Rattle.key_value.proofs.FirstBytes.{no_pair}
use Rattle.key_walk.proofs.names.compare_any.Goals as goal

pub returns-then-is_over-clause-compares : goal.returns-then-is_over-clause-compares
returns-then-is_over-clause-compares c = λ text more e.
    let over = c.is_over.ensures.yes c.if-is_over.true in
    absurd (no_pair text more c.args.bytes.now over.0 over.1 e)

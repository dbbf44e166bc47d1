use Rattle.key_value.proofs.FirstBytes.{no_pair}
use Rattle.key_walk.proofs.names.any_name_size.Goals as goal

pub returns-then-is_over-clause-found : goal.returns-then-is_over-clause-found
returns-then-is_over-clause-found c = λ text more e.
    let over = c.is_over.ensures.yes c.if-is_over.true in
    absurd (no_pair text more c.args.bytes.now over.0 over.1 e)

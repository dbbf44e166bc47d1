use Rattle.key_document.proofs.Short.{tail_short}
use Rattle.key_document.proofs.laws.tails_are_short.Goals as goal

pub returns : goal.returns
returns c = tail_short

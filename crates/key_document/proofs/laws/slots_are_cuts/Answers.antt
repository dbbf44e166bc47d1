use Rattle.key_document.proofs.Agreeing.{agree}
use Rattle.key_document.proofs.laws.slots_are_cuts.Goals as goal

pub returns : goal.returns
returns c = agree

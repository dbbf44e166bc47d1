use Rattle.key_zeros.proofs.Telling.{text_reported}
use Rattle.key_zeros.proofs.laws.zeros_distinguish_texts.Goals as goal

pub returns : goal.returns
returns c = text_reported

use Rattle.vjson_text.proofs.LaidOut.{again}
use Rattle.vjson_text.proofs.laws.texts_laid_out_stay.Goals as goal

pub returns : goal.returns
returns c = again

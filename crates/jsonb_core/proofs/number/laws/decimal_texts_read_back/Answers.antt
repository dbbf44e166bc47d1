use Rattle.jsonb_core.proofs.Numbers.DecimalTexts.{reads_back_as_decimal}
use Rattle.jsonb_core.proofs.number.laws.decimal_texts_read_back.Goals as goal

pub returns : goal.returns
returns c = reads_back_as_decimal

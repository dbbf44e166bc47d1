use Rattle.jsonb_core.proofs.Strings.Writing.{reads_back}
use Rattle.jsonb_value.proofs.value.text.string_texts_read_back.Goals as goal

pub returns : goal.returns
returns c = reads_back

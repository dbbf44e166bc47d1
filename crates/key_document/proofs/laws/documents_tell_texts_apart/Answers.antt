use Rattle.key_document.proofs.Apart.{one_document, one_text}
use Rattle.key_document.proofs.laws.documents_tell_texts_apart.Goals as goal

pub returns : goal.returns
returns c = record { text = one_text; document = one_document }

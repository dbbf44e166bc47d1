use Rattle.jsonb_core.proofs.Numbers.IntegersReadBack.{signed_reads_back, unsigned_reads_back}
use Rattle.jsonb_core.proofs.number.laws.integer_texts_read_back.Goals as goal

pub returns-clause-signed : goal.returns-clause-signed
returns-clause-signed c = signed_reads_back

pub returns-clause-unsigned : goal.returns-clause-unsigned
returns-clause-unsigned c = unsigned_reads_back

use Rattle.key_table.proofs.Unmarked.{unmarked}
use Rattle.key_table.proofs.laws.documents_end_unlike_tables.Goals as goal

pub returns : goal.returns
returns c = unmarked

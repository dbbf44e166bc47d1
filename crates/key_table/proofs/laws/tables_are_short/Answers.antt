use Rattle.key_table.proofs.Short.{table_short}
use Rattle.key_table.proofs.laws.tables_are_short.Goals as goal

pub returns : goal.returns
returns c = table_short

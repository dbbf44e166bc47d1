use Rattle.jsonb_core.proofs.Trees.RangeTexts.{range_has_text, range_reads_back, one_text_in_range, one_text_of_integers}
use Rattle.jsonb_value.proofs.value.laws.value_texts_read_back.Goals as goal

pub returns-clause-written : goal.returns-clause-written
returns-clause-written c = range_has_text

pub returns-clause-reads_back : goal.returns-clause-reads_back
returns-clause-reads_back c = range_reads_back

pub returns-clause-same : goal.returns-clause-same
returns-clause-same c = one_text_in_range

pub returns-clause-integers : goal.returns-clause-integers
returns-clause-integers c = one_text_of_integers

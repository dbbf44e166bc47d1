use Rattle.jsonb_core.proofs.Trees.RangeTexts.{document_in_range}
use Rattle.jsonb_core.proofs.Trees.StandardInExtended.{standard_is_extended}
use Rattle.jsonb_value.proofs.value.laws.documents_are_in_range.Goals as goal

pub returns-clause-range : goal.returns-clause-range
returns-clause-range c = document_in_range

pub returns-clause-extended : goal.returns-clause-extended
returns-clause-extended c = standard_is_extended

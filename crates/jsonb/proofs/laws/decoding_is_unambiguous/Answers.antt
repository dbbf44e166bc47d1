use Rattle.jsonb_core.proofs.Strings.Exclusion.{decodes_one, fault_excludes}
use Rattle.jsonb.proofs.laws.decoding_is_unambiguous.Goals as goal

pub returns-clause-text : goal.returns-clause-text
returns-clause-text c = decodes_one

pub returns-clause-fault : goal.returns-clause-fault
returns-clause-fault c = fault_excludes

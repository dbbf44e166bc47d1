use Rattle.jsonb.proofs.Documents.Encodings.{derived_unique, document_unique}
use Rattle.jsonb.proofs.Containers.LongerEncodings.{both_numbers}
use Rattle.jsonb.proofs.laws.grammar_is_unambiguous.Goals as goal

pub returns-clause-tree : goal.returns-clause-tree
returns-clause-tree c = document_unique

pub returns-clause-numbers : goal.returns-clause-numbers
returns-clause-numbers c = both_numbers

pub returns-clause-same : goal.returns-clause-same
returns-clause-same c = derived_unique

use Rattle.key_edit.proofs.ProperChanges.{inserted_proper, item_proper, member_proper, merged_proper, removed_proper, set_proper}
use Rattle.key_edit.proofs.laws.changed_values_are_proper.Goals as goal

pub returns-clause-removed : goal.returns-clause-removed
returns-clause-removed c = removed_proper

pub returns-clause-set : goal.returns-clause-set
returns-clause-set c = set_proper

pub returns-clause-member : goal.returns-clause-member
returns-clause-member c = member_proper

pub returns-clause-item : goal.returns-clause-item
returns-clause-item c = item_proper

pub returns-clause-merged : goal.returns-clause-merged
returns-clause-merged c = merged_proper

pub returns-clause-inserted : goal.returns-clause-inserted
returns-clause-inserted c = inserted_proper

use Rattle.key_document.proofs.ItemsJoined.{edge_none, edge_some}
use Rattle.key_document.proofs.merge.edge_of.Goals as goal

pub returns-in-Some : goal.returns-in-Some
returns-in-Some c = record { edge = λ t r e. edge_some t r c.args.key.now c.in-Some.field-0.now e c.in-Some.ensures.some }

pub returns-in-None : goal.returns-in-None
returns-in-None c = record { edge = λ t r e. edge_none t c.args.key.now e c.in-None.ensures.array }

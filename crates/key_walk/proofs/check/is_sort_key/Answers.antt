use Rattle.key_walk.proofs.Framed.{nothing_behind, no_whole_key}
use Rattle.key_walk.proofs.check.is_sort_key.Goals as goal

pub returns-in-Some : goal.returns-in-Some
returns-in-Some c = nothing_behind c.args.bytes.now c.in-Some.rest.now c.is_empty.result c.in-Some.ensures c.is_empty.ensures

pub returns-in-None : goal.returns-in-None
returns-in-None c = no_whole_key c.args.bytes.now c.in-None.ensures

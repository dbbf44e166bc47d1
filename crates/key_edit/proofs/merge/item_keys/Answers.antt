use Rattle.key_edit.proofs.Joined.{array_items, one_item}
use Rattle.key_edit.proofs.merge.item_keys.Goals as goal

pub returns-in-Some : goal.returns-in-Some
returns-in-Some c = λ t r e. array_items t r c.args.key.now c.in-Some.items.now e c.in-Some.ensures.some c.without_end.result c.without_end.ensures

pub returns-in-None : goal.returns-in-None
returns-in-None c = λ t r e. one_item t c.args.key.now e c.in-None.ensures.array c.as_item.result (c.as_item.ensures t r e)

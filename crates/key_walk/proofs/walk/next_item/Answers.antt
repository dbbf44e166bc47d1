use Rattle.std.proofs.Common.{◌++◌, [], false, ◌∙◌, append_assoc}
use Rattle.key_value.proofs.Texts.{none_some}
use Rattle.jsonb_spec.specs.SortKey.{key_of, items_key}
use Rattle.key_walk.proofs.Opens.{no_end}
use Rattle.key_walk.proofs.walk.next_item.Goals as goal

pub returns-in-Some-clause-next : goal.returns-in-Some-clause-next
returns-in-Some-clause-next c = λ t r ts more e.
    absurd (no_end false [] t 512 r c.args.items.now _ (items_key ts ++ more) c.in-Some.ensures.some (e ∙ append_assoc (key_of t) (items_key ts) more))

pub returns-in-None-clause-over : goal.returns-in-None-clause-over
returns-in-None-clause-over c = λ more e. absurd (none_some more (c.in-None.ensures.found more e))

pub returns-in-None-clause-next : goal.returns-in-None-clause-next
returns-in-None-clause-next c = λ t r ts more e. c.item_of.ensures.next t r (items_key ts ++ more) (e ∙ append_assoc (key_of t) (items_key ts) more)

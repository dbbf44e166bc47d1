use Rattle.std.proofs.Common.{rules}
use Rattle.jsonb_value.specs.View.{view}
use Rattle.jsonb.proofs.Children.{no_index}
use Rattle.jsonb.proofs.part.child.Goals as goal

pub returns-in_default-index_of-clause-none : goal.returns-in_default-index_of-clause-none
returns-in_default-index_of-clause-none c =
    no_index (view c.args.value.now) c.args.key.now c.in-Some.field-0 c.in-Some.ensures (search rules) c.in_default-index_of.ensures.none

use Rattle.std.proofs.Common.{sym, subst, ap, ◌∙◌}
use Rattle.std.specs.Slice.{IsItemAt}
use Rattle.jsonb_spec.specs.Accessors.{get_by_index}
use Rattle.jsonb_value.specs.View.{view}
use Rattle.jsonb_value.proofs.Values.Accessors.{view-Array, item_lent}
use Rattle.jsonb_value.proofs.value.Value.get_by_index.Goals as goal

pub returns-in-Array : goal.returns-in-Array
returns-in-Array c =
    let items = c.in-Array.items in
    item_lent items.items c.args.index c.get.result (subst (λ vs. IsItemAt vs c.args.index c.get.result) c.deref.ensures.value c.get.ensures.lookup)
    ∙ sym (ap (get_by_index c.args.index) (ap view c.in-Array.is ∙ view-Array items))

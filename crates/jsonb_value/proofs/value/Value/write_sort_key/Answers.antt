use Rattle.std.proofs.Common.{◌≡◌, false, Result, Ok, Err, OnOk, sym, ◌∙◌}
use Rattle.std.specs.Result.{is_err}
use Rattle.jsonb_value.specs.View.{view}
use Rattle.jsonb_core.proofs.SortKeys.Trees.{keys_order}
use Rattle.jsonb_value.proofs.value.Value.write_sort_key.Goals as goal

done : {T E P : Type 0} (r : Result T E) → is_err r ≡ false → OnOk r P → P
done (Ok x) e p = p
done (Err x) e p = cc

pub returns-clause-order : goal.returns-clause-order
returns-clause-order c = λ u proper.
    keys_order (view c.args.self.now) u (done c.append.result (sym c.is_err.ensures.value ∙ c.if-is_err.false) c.append.ensures.proper) proper

use Rattle.std.proofs.Common.{◌++◌, Bool, ℕ, Some, None, true, refl, ap, subst, sym, ◌∙◌}
use Rattle.jsonb_spec.specs.Accessors.{trees_len}
use Rattle.jsonb_spec.specs.SortKey.{items_key}
use Rattle.jsonb_spec.specs.Edit.Insert.{one_more}
use Rattle.key_edit.specs.Spots.{index_in, items_from, LeavesItems, ReportsBehind}
use Rattle.key_edit.proofs.Inserting.{slot_is}
use Rattle.key_edit.proofs.Items.{from_from, from_open, left_at, none_at}
use Rattle.key_edit.proofs.insert.behind_slot.Goals as goal

pub returns-in_default : goal.returns-in_default
returns-in_default c = record {
  behind = λ ts p w more e.
      let step : Bool × ℕ = (c.args.from_end, c.args.number) in
      let none = none_at ts more _ (subst (LeavesItems ts more (index_in (trees_len ts) step)) c.in_default.is (c.in_ok-rest.ensures.found ts p w more e)) in
      e ∙ ap (λ n. items_key (items_from n ts) ++ more) (sym (slot_is c.args.after (trees_len ts) step None none));
}

pub returns-then-after : goal.returns-then-after
returns-then-after c = record {
  behind = λ ts p w more e.
      let step : Bool × ℕ = (c.args.from_end, c.args.number) in
      let (n, is, at) = left_at ts more _ c.in-Some.rest (subst (LeavesItems ts more (index_in (trees_len ts) step)) c.in-Some.is (c.in_ok-rest.ensures.found ts p w more e)) in
      let left = from_open n ts p w in
      let same = ap (λ b. items_from (one_more b n) ts) (sym c.if-after.true) ∙ ap (λ n. items_from n ts) (sym (slot_is c.args.after (trees_len ts) step (Some n) is)) in
      subst (λ us. ReportsBehind (items_key us ++ more) c.pass_items.result) (from_from 1 n (one_more true n) ts refl ∙ same) (c.pass_items.ensures.behind (items_from n ts) left.0 left.1 more at);
}

pub returns-else-after : goal.returns-else-after
returns-else-after c = record {
  behind = λ ts p w more e.
      let step : Bool × ℕ = (c.args.from_end, c.args.number) in
      let (n, is, at) = left_at ts more _ c.in-Some.rest (subst (LeavesItems ts more (index_in (trees_len ts) step)) c.in-Some.is (c.in_ok-rest.ensures.found ts p w more e)) in
      at ∙ ap (λ us. items_key us ++ more) (ap (λ b. items_from (one_more b n) ts) (sym c.if-after.false) ∙ ap (λ n. items_from n ts) (sym (slot_is c.args.after (trees_len ts) step (Some n) is)));
}

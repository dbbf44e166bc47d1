use Rattle.std.proofs.Common.{Bool, ℕ, Ok, Some, None, refl, subst}
use Rattle.jsonb_spec.specs.Accessors.{trees_len}
use Rattle.jsonb_spec.specs.SortKey.Open.{items}
use Rattle.key_edit.specs.Spots.{index_in, items_from, LeavesItems, OccursFirst}
use Rattle.key_edit.proofs.Items.{from_open, left_at, none_at}
use Rattle.key_edit.proofs.Spotted.{item_first, item_over, no_first, step_there}
use Rattle.key_edit.proofs.spot.item_spot.Goals as goal

pub returns-in_default : goal.returns-in_default
returns-in_default c = record {
  spot = λ ts p w more e depth_left f name.
      let step : Bool × ℕ = (c.args.from_end, c.args.number) in
      let none = none_at ts more _ (subst (LeavesItems ts more (index_in (trees_len ts) step)) c.in_default.is (c.in_ok-rest.ensures.found ts p w more e)) in
      step_there ts step None name c.args.items.now more depth_left c.no_part.result none p w f e c.no_part.ensures;
}

pub returns-in_err-value : goal.returns-in_err-value
returns-in_err-value c = record {
  spot = λ ts p w more e depth_left f name.
      let step : Bool × ℕ = (c.args.from_end, c.args.number) in
      let (n, is, at) = left_at ts more _ c.in-Some.rest (subst (LeavesItems ts more (index_in (trees_len ts) step)) c.in-Some.is (c.in_ok-rest.ensures.found ts p w more e)) in
      absurd (no_first (items (items_from n ts)) more c.in_err-value.field-0.0 (c.in_err-value.ensures.first (items (items_from n ts)) refl (from_open n ts p w) more at));
}

pub returns-in_default-2 : goal.returns-in_default-2
returns-in_default-2 c = record {
  spot = λ ts p w more e depth_left f name.
      let step : Bool × ℕ = (c.args.from_end, c.args.number) in
      let (n, is, at) = left_at ts more _ c.in-Some.rest (subst (LeavesItems ts more (index_in (trees_len ts) step)) c.in-Some.is (c.in_ok-rest.ensures.found ts p w more e)) in
      let first = subst (λ answer. OccursFirst (items (items_from n ts)) more (Ok answer)) c.in_default-2.is (c.in_ok-value.ensures.first (items (items_from n ts)) refl (from_open n ts p w) more at) in
      step_there ts step (Some n) name c.args.items.now more depth_left c.no_part-in_default-2.result is p w f e (item_over (items_from n ts) c.in-Some.rest.now more c.no_part-in_default-2.result first at c.no_part-in_default-2.ensures);
}

pub returns : goal.returns
returns c = record {
  spot = λ ts p w more e depth_left f name.
      let step : Bool × ℕ = (c.args.from_end, c.args.number) in
      let (n, is, at) = left_at ts more _ c.in-Some.rest (subst (LeavesItems ts more (index_in (trees_len ts) step)) c.in-Some.is (c.in_ok-rest.ensures.found ts p w more e)) in
      let first = subst (λ answer. OccursFirst (items (items_from n ts)) more (Ok answer)) c.in-Some-2.is (c.in_ok-value.ensures.first (items (items_from n ts)) refl (from_open n ts p w) more at) in
      step_there ts step (Some n) name c.args.items.now more depth_left _ is p w f e (item_first (items_from n ts) c.in-Some.rest.now more c.in-Some-2.value _ first at refl refl refl);
}

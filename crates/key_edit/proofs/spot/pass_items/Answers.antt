use Rattle.std.proofs.Common.{◌≡◌, ◌++◌, suc, Ok, refl, sym, ap, subst, ◌∙◌, arith}
use Rattle.jsonb_spec.specs.SortKey.Open.{items}
use Rattle.jsonb_spec.specs.SortKey.{items_key}
use Rattle.key_edit.specs.Spots.{items_from, OccursFirst}
use Rattle.key_edit.proofs.Items.{from_end, from_open, item_next, items_end}
use Rattle.key_edit.proofs.Spotted.{no_first}
use Rattle.key_edit.proofs.spot.pass_items.Goals as goal

pub items-init : goal.items-init
items-init c = λ ts p w more e. (0, omega arith, e)

pub returns-in_err-value : goal.returns-in_err-value
returns-in_err-value c = record {
  behind = λ ts p w more e.
      let (n, so_many, at) = c.items.invariant ts p w more e in
      absurd (no_first (items (items_from n ts)) more c.in_err-value.field-0.0 (c.in_err-value.ensures.first (items (items_from n ts)) refl (from_open n ts p w) more at));
}

pub returns-in_default : goal.returns-in_default
returns-in_default c = record {
  behind = λ ts p w more e.
      let (n, so_many, at) = c.items.invariant ts p w more e in
      let first = subst (λ answer. OccursFirst (items (items_from n ts)) more (Ok answer)) c.in_default.is (c.in_ok-value.ensures.first (items (items_from n ts)) refl (from_open n ts p w) more at) in
      let over = items_end n ts more first in
      at ∙ ap (λ us. items_key us ++ more) (from_end n ts over ∙ sym (from_end c.args.count ts (omega (arith, over, so_many))));
}

pub returns-in_err-rest : goal.returns-in_err-rest
returns-in_err-rest c = record {
  behind = λ ts p w more e.
      let (n, so_many, at) = c.items.invariant ts p w more e in
      let first = subst (λ answer. OccursFirst (items (items_from n ts)) more (Ok answer)) c.in-Some.is (c.in_ok-value.ensures.first (items (items_from n ts)) refl (from_open n ts p w) more at) in
      let i = item_next n ts more c.in-Some.value p w first in
      absurd (c.in_err-rest.ensures.behind i.tree i.readable (items_key (items_from (suc n) ts) ++ more) i.value_is);
}

pub items-preserved : goal.items-preserved
items-preserved c = λ ts p w more e.
    let (n, so_many, at) = c.items.invariant ts p w more e in
    let first = subst (λ answer. OccursFirst (items (items_from n ts)) more (Ok answer)) c.in-Some.is (c.in_ok-value.ensures.first (items (items_from n ts)) refl (from_open n ts p w) more at) in
    let i = item_next n ts more c.in-Some.value p w first in
    (suc n, omega (arith, so_many, c.items-test.true), c.in_ok-rest.ensures.behind i.tree i.readable (items_key (items_from (suc n) ts) ++ more) i.value_is)

pub returns : goal.returns
returns c = record {
  behind = λ ts p w more e.
      let (n, so_many, at) = c.items.invariant ts p w more e in
      let same : n ≡ c.args.count = omega (arith, so_many, c.items-test.false) in
      at ∙ ap (λ n. items_key (items_from n ts) ++ more) same;
}

use Rattle.std.proofs.Common.{arith, refl}
use Rattle.key_value.proofs.Texts.{none_some, some_same}
use Rattle.jsonb_spec.specs.Accessors.{item_at}
use Rattle.key_walk.proofs.Occurrence.{found_none, found_some, no_item_here, item_here, item_is, item_occurs, item_passed}
use Rattle.key_walk.proofs.find.item_at.Goals as goal

pub returns-then-is_over-clause-found : goal.returns-then-is_over-clause-found
returns-then-is_over-clause-found c = λ ts p w more e.
    let over = c.is_over.ensures.yes c.if-is_over.true in
    found_none c.args.items.now (item_at ts c.args.index) (no_item_here ts c.args.index c.items.before c.args.items.now c.items.rest.now more over.0 (c.items.invariant.walks ts p w more e) over.1)

pub returns-in_default-clause-found : goal.returns-in_default-clause-found
returns-in_default-clause-found c = λ ts p w more e.
    let n = item_here ts c.args.index c.items.before c.args.items.now c.items.rest.now more (c.items.invariant.walks ts p w more e) (c.is_over.ensures.no c.if-is_over.false) in
    found_some c.args.items.now c.items.rest.now c.items.rest (item_at ts c.args.index) n.item
    (item_is ts c.args.index c.items.before c.args.items.now c.items.rest.now more n (omega (arith, c.in_default.ensures))) refl
    (item_occurs ts c.args.index c.items.before c.args.items.now c.items.rest.now more n)

pub returns-in_default-after_key-clause-found : goal.returns-in_default-after_key-clause-found
returns-in_default-after_key-clause-found c = λ ts p w more e.
    let n = item_here ts c.args.index c.items.before c.args.items.now c.items.rest.now more (c.items.invariant.walks ts p w more e) (c.is_over.ensures.no c.if-is_over.false) in
    absurd (none_some _ (c.in_default-after_key.ensures.found n.item n.readable _ n.occurs))

pub items-preserved : goal.items-preserved
items-preserved c = record {
  walks = λ ts p w more e.
      let n = item_here ts c.args.index c.items.before c.args.items.now c.items.rest.now more (c.items.invariant.walks ts p w more e) (c.is_over.ensures.no c.if-is_over.false) in
      let others = some_same c.in-Some-after_key.others.now _ (c.in-Some-after_key.ensures.found n.item n.readable _ n.occurs) in
      item_passed ts c.args.index c.items.before c.in-Some.less c.args.items.now c.items.rest.now more c.in-Some-after_key.others.now n (omega (arith, c.in-Some.ensures)) others;
  within = omega (arith, c.in-Some-after_key.ensures.shorter, c.items.invariant.within);
}

use Rattle.std.proofs.Common.{◌++◌, refl, sym, ap, ◌∙◌, arith}
use Rattle.key_value.proofs.Texts.{none_some, some_same}
use Rattle.key_walk.proofs.Beside.{items_ahead, no_item_ahead, item_ahead, item_passed, item_is}
use Rattle.key_walk.proofs.Holding.{items_open, readable_up}
use Rattle.jsonb_spec.specs.SortKey.Open.{items}
use Rattle.key_walk.proofs.Walked.{moved_on, same_key, reported_no, reported_yes, stripped, not_stripped}
use Rattle.jsonb_spec.specs.SortKey.{key_of}
use Rattle.key_walk.proofs.containment.Walk.has_scalar_item.Goals as goal

pub items-init : goal.items-init
items-init c = record {
  passes = λ u s e r is depth l ts h more occurs. items_ahead depth ts u _ _ more h occurs;
  keys = (refl, refl, refl);
  theirs = refl;
}

pub returns-clause-held : goal.returns-clause-held
returns-clause-held c = λ depth levels l ts u h r s more behind w.
    let theirs = some_same c.in-Some.theirs.now behind (c.in-Some.ensures.found levels u r s behind w.1.is) in
    let wanted = c.front-wanted.ensures (key_of u) (w.1.is ∙ ap (λ b. key_of u ++ b) (sym theirs)) in
    let over = c.is_over.ensures.yes c.items-test.false in
    reported_no _ (no_item_ahead depth ts u _ _ more over.0 (c.items.invariant.passes u s levels r wanted depth l ts h more w.0) over.1)

pub returns-in-Some-strip_prefix-clause-held : goal.returns-in-Some-strip_prefix-clause-held
returns-in-Some-strip_prefix-clause-held c = λ depth levels l ts u h r s more behind w.
    let theirs = some_same c.in-Some.theirs.now behind (c.in-Some.ensures.found levels u r s behind w.1.is) in
    let wanted = c.front-wanted.ensures (key_of u) (w.1.is ∙ ap (λ b. key_of u ++ b) (sym theirs)) in
    let n = item_ahead depth ts u _ _ more (c.items.invariant.passes u s levels r wanted depth l ts h more w.0) (c.is_over.ensures.no c.items-test.true) in
    let x = stripped n.item u depth levels n.readable r s c.items.self.ours.now c.front-wanted.result.now c.in-Some-strip_prefix.ours.now _ n.occurs.is wanted c.in-Some-strip_prefix.ensures.cases.0 c.in-Some-strip_prefix.ensures.cases.1 in
    reported_yes _ (item_is depth ts u _ _ more n x.held)
    (record {
      parts = items n.others;
      is = refl;
      fits = items_open n.others depth 511 l n.are_readable;
      occurs = (moved_on _ _ (key_of n.item) _ _ n.occurs x.behind, same_key c.args.self.now.other.now c.items.self.other.now _ behind c.items.invariant.keys.1 (moved_on _ _ (key_of u) _ behind w.1 theirs));
    })

pub returns-in_default-after_key-clause-held : goal.returns-in_default-after_key-clause-held
returns-in_default-after_key-clause-held c = λ depth levels l ts u h r s more behind w.
    let theirs = some_same c.in-Some.theirs.now behind (c.in-Some.ensures.found levels u r s behind w.1.is) in
    let wanted = c.front-wanted.ensures (key_of u) (w.1.is ∙ ap (λ b. key_of u ++ b) (sym theirs)) in
    let n = item_ahead depth ts u _ _ more (c.items.invariant.passes u s levels r wanted depth l ts h more w.0) (c.is_over.ensures.no c.items-test.true) in
    absurd (none_some _ (c.in_default-after_key.ensures.found n.item (readable_up n.item depth 512 (omega (arith, l)) n.readable) _ n.occurs.is))

pub items-preserved : goal.items-preserved
items-preserved c = record {
  passes = λ u s e r is depth l ts h more occurs.
      let n = item_ahead depth ts u _ _ more (c.items.invariant.passes u s e r is depth l ts h more occurs) (c.is_over.ensures.no c.items-test.true) in
      let isnt = not_stripped n.item u depth e n.readable r s c.items.self.ours.now c.front-wanted.result.now _ n.occurs.is is c.in_default-strip_prefix.ensures.cases in
      let others = some_same c.in-Some-after_key.ours.now _ (c.in-Some-after_key.ensures.found n.item (readable_up n.item depth 512 (omega (arith, l)) n.readable) _ n.occurs.is) in
      item_passed depth ts u _ _ more c.in-Some-after_key.ours.now n isnt others;
  keys = c.items.invariant.keys;
  theirs = c.items.invariant.theirs;
}

use Rattle.std.proofs.Common.{◌≡◌, ◌+◌, ◌++◌, Ok, Some, None, suc, refl, sym, subst, ap, ◌∙◌, arith}
use Rattle.jsonb_spec.specs.Accessors.{trees_len}
use Rattle.jsonb_spec.specs.SortKey.Open.{items}
use Rattle.jsonb_spec.specs.SortKey.{items_key}
use Rattle.key_edit.specs.Spots.{items_from, LeavesItems, OccursFirst}
use Rattle.key_edit.proofs.Items.{IsEarlier, from_from, from_open, index_back, item_next, items_end, none_back}
use Rattle.key_edit.proofs.Spotted.{no_first}
use Rattle.key_edit.proofs.spot.items_back.Goals as goal

pub items-init : goal.items-init
items-init c = record {
  walks = λ ts p w more e. record { passed = 0; within = omega arith; at_rest = e; at_later = e; at_earlier = refl };
  below = omega (arith, c.requires);
}

pub returns-in_err-value : goal.returns-in_err-value
returns-in_err-value c = record {
  found = λ ts p w more e.
      let b = c.items.invariant.walks ts p w more e in
      let n = b.passed + c.items.since in
      absurd (no_first (items (items_from n ts)) more c.in_err-value.field-0.0 (c.in_err-value.ensures.first (items (items_from n ts)) refl (from_open n ts p w) more b.at_rest));
}

pub returns-in_default-earlier : goal.returns-in_default-earlier
returns-in_default-earlier c = record {
  found = λ ts p w more e.
      let b = c.items.invariant.walks ts p w more e in
      let n = b.passed + c.items.since in
      let first = subst (λ answer. OccursFirst (items (items_from n ts)) more (Ok answer)) c.in_default.is (c.in_ok-value.ensures.first (items (items_from n ts)) refl (from_open n ts p w) more b.at_rest) in
      let start = subst (IsEarlier ts c.args.back b.passed more) c.in_default-earlier.is b.at_earlier in
      subst (λ i. LeavesItems ts more i None) (sym (none_back (trees_len ts) c.args.back (omega (arith, start, items_end n ts more first, c.items.invariant.below)))) tt;
}

pub returns-in_err-found : goal.returns-in_err-found
returns-in_err-found c = record {
  found = λ ts p w more e.
      let (n, back, at) = subst (IsEarlier ts c.args.back (c.items.invariant.walks ts p w more e).passed more) c.in-Some-earlier.is (c.items.invariant.walks ts p w more e).at_earlier in
      let left = from_open n ts p w in
      absurd (c.in_err-found.ensures.behind (items_from n ts) left.0 left.1 more at);
}

pub returns-in_default : goal.returns-in_default
returns-in_default c = record {
  found = λ ts p w more e.
      let b = c.items.invariant.walks ts p w more e in
      let m = b.passed + c.items.since in
      let first = subst (λ answer. OccursFirst (items (items_from m ts)) more (Ok answer)) c.in_default.is (c.in_ok-value.ensures.first (items (items_from m ts)) refl (from_open m ts p w) more b.at_rest) in
      let (n, back, at) = subst (IsEarlier ts c.args.back b.passed more) c.in-Some-earlier.is b.at_earlier in
      let left = from_open n ts p w in
      let index : (n + c.items.since) + c.args.back ≡ trees_len ts = omega (arith, back, b.within, items_end m ts more first) in
      subst (λ i. LeavesItems ts more i (Some c.in_ok-found.found)) (sym (index_back (trees_len ts) c.args.back (n + c.items.since) index))
      (c.in_ok-found.ensures.behind (items_from n ts) left.0 left.1 more at ∙ ap (λ us. items_key us ++ more) (from_from c.items.since n (n + c.items.since) ts refl));
}

pub returns-in_err-rest : goal.returns-in_err-rest
returns-in_err-rest c = record {
  found = λ ts p w more e.
      let b = c.items.invariant.walks ts p w more e in
      let n = b.passed + c.items.since in
      let first = subst (λ answer. OccursFirst (items (items_from n ts)) more (Ok answer)) c.in-Some.is (c.in_ok-value.ensures.first (items (items_from n ts)) refl (from_open n ts p w) more b.at_rest) in
      let i = item_next n ts more c.in-Some.value p w first in
      absurd (c.in_err-rest.ensures.behind i.tree i.readable (items_key (items_from (suc n) ts) ++ more) i.value_is);
}

pub items-preserved-then-since-back : goal.items-preserved-then-since-back
items-preserved-then-since-back c = record {
  walks = λ ts p w more e.
      let b = c.items.invariant.walks ts p w more e in
      let n = b.passed + c.items.since in
      let first = subst (λ answer. OccursFirst (items (items_from n ts)) more (Ok answer)) c.in-Some.is (c.in_ok-value.ensures.first (items (items_from n ts)) refl (from_open n ts p w) more b.at_rest) in
      let i = item_next n ts more c.in-Some.value p w first in
      let rest = c.in_ok-rest.ensures.behind i.tree i.readable (items_key (items_from (suc n) ts) ++ more) i.value_is in
      let all : suc n ≡ b.passed + c.args.back = omega (arith, c.if-since-back.true) in
      let same : suc n ≡ (b.passed + c.args.back) + 0 = omega (arith, all) in
      record {
        passed = b.passed + c.args.back;
        within = omega (arith, all, i.below);
        at_rest = rest ∙ ap (λ n. items_key (items_from n ts) ++ more) same;
        at_later = rest ∙ ap (λ n. items_key (items_from n ts) ++ more) all;
        at_earlier = (b.passed, refl, b.at_later);
      };
  below = omega (arith, c.requires);
}

pub items-preserved : goal.items-preserved
items-preserved c = record {
  walks = λ ts p w more e.
      let b = c.items.invariant.walks ts p w more e in
      let n = b.passed + c.items.since in
      let first = subst (λ answer. OccursFirst (items (items_from n ts)) more (Ok answer)) c.in-Some.is (c.in_ok-value.ensures.first (items (items_from n ts)) refl (from_open n ts p w) more b.at_rest) in
      let i = item_next n ts more c.in-Some.value p w first in
      let one : suc n ≡ b.passed + (c.items.since + 1) = omega arith in
      record {
        passed = b.passed;
        within = omega (arith, i.below);
        at_rest = c.in_ok-rest.ensures.behind i.tree i.readable (items_key (items_from (suc n) ts) ++ more) i.value_is ∙ ap (λ n. items_key (items_from n ts) ++ more) one;
        at_later = b.at_later;
        at_earlier = b.at_earlier;
      };
  below = omega (arith, c.items.invariant.below, c.if-since-back.false);
}

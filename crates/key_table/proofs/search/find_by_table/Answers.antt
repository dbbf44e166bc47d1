use Rattle.std.proofs.Common.{◌≡◌, ◌+◌, ◌/◌, ◌++◌, Equal, Ok, None, subst, refl, sym, ap, ◌∙◌, arith, append_assoc}
use Rattle.std.proofs.lemmas.Map.Lookups.{exact_bytes}
use Rattle.std.specs.Str.{bytes_eq}
use Rattle.jsonb_spec.specs.Accessors.{find_member}
use Rattle.jsonb_spec.specs.Order.{bytes_cmp}
use Rattle.jsonb_spec.specs.SortKey.{key_of, text_key}
use Rattle.key_value.proofs.Texts.{none_some, some_same}
use Rattle.key_table.proofs.Searching.{entry_here, finds_none, finds_some, halves_begun, none_left, of_table, Halves}
use Rattle.key_table.proofs.search.find_by_table.Goals as goal

pub halves-init : goal.halves-init
halves-init c = record {
  searches = λ ms r has e is. subst (Halves ms c.args.name.now c.args.table.now 0) (sym c.entry_count-high.ensures.count) (halves_begun ms c.args.name.now c.args.table.now is);
  order = omega arith;
  within = omega (arith, c.entry_count-high.ensures.count);
  next = λ other. absurd (other refl);
}

pub returns-in_default : goal.returns-in_default
returns-in_default c = record {
  finds = record {
    found = of_table c.args.key.now c.args.table.now c.args.name.now _ (λ ms r has e is.
        let n = entry_here c.args.key.now c.args.table.now c.args.name.now ms r has e is c.halves.low c.halves.high ((c.halves.low + c.halves.high) / 2) (c.halves.invariant.searches ms r has e is) (omega (arith, c.halves-test.true, c.halves.invariant.within)) in
        let two = c.two_at.ensures.two n.front n.more n.offset n.small n.front_long n.entry in
        absurd (none_some (text_key n.text ++ (key_of n.value ++ n.others)) (c.in_default.ensures n.before (text_key n.text ++ (key_of n.value ++ n.others)) n.member (n.before_long ∙ sym two))));
    within = tt;
  };
}

pub halves-preserved-in-Less : goal.halves-preserved-in-Less
halves-preserved-in-Less c = record {
  searches = λ ms r has e is.
      let n = entry_here c.args.key.now c.args.table.now c.args.name.now ms r has e is c.halves.low c.halves.high ((c.halves.low + c.halves.high) / 2) (c.halves.invariant.searches ms r has e is) (omega (arith, c.halves-test.true, c.halves.invariant.within)) in
      let two = c.two_at.ensures.two n.front n.more n.offset n.small n.front_long n.entry in
      let member = some_same c.in-Some.member.now (text_key n.text ++ (key_of n.value ++ n.others)) (c.in-Some.ensures n.before (text_key n.text ++ (key_of n.value ++ n.others)) n.member (n.before_long ∙ sym two)) in
      n.below (sym (c.compare_wanted.ensures.compares n.text (key_of n.value ++ n.others) member) ∙ c.in-Less.is);
  order = omega (arith, c.halves-test.true);
  within = omega (arith, c.halves-test.true, c.halves.invariant.within);
  next = c.compare_wanted.ensures.next;
}

pub halves-preserved : goal.halves-preserved
halves-preserved c = record {
  searches = λ ms r has e is.
      let n = entry_here c.args.key.now c.args.table.now c.args.name.now ms r has e is c.halves.low c.halves.high ((c.halves.low + c.halves.high) / 2) (c.halves.invariant.searches ms r has e is) (omega (arith, c.halves-test.true, c.halves.invariant.within)) in
      let two = c.two_at.ensures.two n.front n.more n.offset n.small n.front_long n.entry in
      let member = some_same c.in-Some.member.now (text_key n.text ++ (key_of n.value ++ n.others)) (c.in-Some.ensures n.before (text_key n.text ++ (key_of n.value ++ n.others)) n.member (n.before_long ∙ sym two)) in
      n.above (sym (c.compare_wanted.ensures.compares n.text (key_of n.value ++ n.others) member) ∙ c.in-Greater.is);
  order = omega (arith, c.halves-test.true);
  within = c.halves.invariant.within;
  next = c.compare_wanted.ensures.next;
}

pub returns-in-Equal : goal.returns-in-Equal
returns-in-Equal c = record {
  finds = record {
    found = of_table c.args.key.now c.args.table.now c.args.name.now c.range_to.result (λ ms r has e is.
        let n = entry_here c.args.key.now c.args.table.now c.args.name.now ms r has e is c.halves.low c.halves.high ((c.halves.low + c.halves.high) / 2) (c.halves.invariant.searches ms r has e is) (omega (arith, c.halves-test.true, c.halves.invariant.within)) in
        let two = c.two_at.ensures.two n.front n.more n.offset n.small n.front_long n.entry in
        let member = some_same c.in-Some.member.now (text_key n.text ++ (key_of n.value ++ n.others)) (c.in-Some.ensures n.before (text_key n.text ++ (key_of n.value ++ n.others)) n.member (n.before_long ∙ sym two)) in
        let same : bytes_cmp c.args.name.now n.text ≡ Equal = sym (c.compare_wanted.ensures.compares n.text (key_of n.value ++ n.others) member) ∙ c.in-Equal.is in
        let last = c.after_front.ensures.found c.args.name.now (key_of n.value ++ n.others) c.some_front_of-front.ensures.front (member ∙ ap (λ k. text_key k ++ (key_of n.value ++ n.others)) (sym (exact_bytes c.args.name.now n.text same))) in
        finds_some c.args.key.now (find_member (bytes_eq c.args.name.now) ms) n.value c.range_to.result (n.same same)
        (c.range_to.ensures.found (n.before ++ text_key n.text) (key_of n.value) n.others (n.member ∙ sym (append_assoc n.before (text_key n.text) (key_of n.value ++ n.others))) last (n.ends c.end_of-end.result c.end_of-end.ensures.next c.end_of-end.ensures.last)));
    within = c.range_to.ensures.within;
  };
}

pub returns : goal.returns
returns c = record {
  finds = record {
    found = of_table c.args.key.now c.args.table.now c.args.name.now (Ok None) (λ ms r has e is.
        finds_none c.args.key.now (find_member (bytes_eq c.args.name.now) ms) (none_left ms c.args.name.now c.args.table.now c.halves.low c.halves.high (c.halves.invariant.searches ms r has e is) (omega (arith, c.halves-test.false, c.halves.invariant.order))));
    within = tt;
  };
}

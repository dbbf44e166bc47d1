use Rattle.std.proofs.Common.{◌≡◌, ℕ, List, ◌++◌, Equal, ap, arith, sym, ◌∙◌}
use Rattle.std.proofs.lemmas.Map.Lookups.{exact_bytes}
use Rattle.key_value.proofs.Texts.{none_some, some_same}
use Rattle.jsonb_spec.specs.Order.{bytes_cmp}
use Rattle.jsonb_spec.specs.SortKey.{key_of, members_key, text_key}
use Rattle.jsonb_spec.specs.Tree.{Members}
use Rattle.key_walk.proofs.Occurrence.{MemberHere, member_here, member_passed, stops_below, stops_here, stops_over}
use Rattle.key_walk.proofs.find.members_from.Goals as goal

-- the member that is found has the name
named : (ms : Members) (name bytes rest more : List ℕ) (n : MemberHere ms name bytes rest more) → bytes_cmp name n.key ≡ Equal → rest ≡ text_key name ++ (key_of n.value ++ (members_key n.others ++ more))
named ms name bytes rest more n same = n.occurs ∙ ap (λ k. text_key k ++ (key_of n.value ++ (members_key n.others ++ more))) (sym (exact_bytes name n.key same))

pub returns-in-Less-clause-passed : goal.returns-in-Less-clause-passed
returns-in-Less-clause-passed g c = λ ms p w more e.
    stops_below ms c.args.name.now c.args.members.now more c.members.rest c.compare_wanted.result (c.members.invariant.walks ms p w more e) c.compare_wanted.ensures.compares c.in-Less.is

pub returns-in_default-clause-passed : goal.returns-in_default-clause-passed
returns-in_default-clause-passed g c = λ ms p w more e.
    let n = member_here ms c.args.name.now c.args.members.now c.members.rest.now more (c.members.invariant.walks ms p w more e) (c.compare_wanted.ensures.not_over c.in-Equal.is) in
    let same = sym (c.compare_wanted.ensures.compares n.key _ n.occurs) ∙ c.in-Equal.is in
    absurd (none_some _ (c.in_default.ensures.found c.args.name.now _ c.front_of-front.ensures.front (named ms c.args.name.now c.args.members.now c.members.rest.now more n same)))

pub returns-in-Equal-clause-passed : goal.returns-in-Equal-clause-passed
returns-in-Equal-clause-passed g c = λ ms p w more e.
    let n = member_here ms c.args.name.now c.args.members.now c.members.rest.now more (c.members.invariant.walks ms p w more e) (c.compare_wanted.ensures.not_over c.in-Equal.is) in
    let same = sym (c.compare_wanted.ensures.compares n.key _ n.occurs) ∙ c.in-Equal.is in
    let value = some_same c.in-Some.value.now _ (c.in-Some.ensures.found c.args.name.now _ c.front_of-front.ensures.front (named ms c.args.name.now c.args.members.now c.members.rest.now more n same)) in
    stops_here ms c.args.name.now c.args.members.now more c.members.rest c.in-Some.value n same value

pub returns-then-is_over-clause-passed : goal.returns-then-is_over-clause-passed
returns-then-is_over-clause-passed g c = λ ms p w more e.
    let over = c.is_over.ensures.yes c.if-is_over.true in
    stops_over ms c.args.name.now c.args.members.now more over.0 c.members.rest (c.members.invariant.walks ms p w more e) over.1

pub returns-in_default-after_key-clause-passed : goal.returns-in_default-after_key-clause-passed
returns-in_default-after_key-clause-passed g c = λ ms p w more e.
    let n = member_here ms c.args.name.now c.args.members.now c.members.rest.now more (c.members.invariant.walks ms p w more e) c.in-Some-after_member_name.ensures.not_over in
    let value = some_same c.in-Some-after_member_name.value.now _ (c.in-Some-after_member_name.ensures.found n.key _ n.occurs) in
    absurd (none_some _ (c.in_default-after_key.ensures.found n.value n.readable _ value))

pub members-preserved : goal.members-preserved
members-preserved g c = record {
  walks = λ ms p w more e.
      let n = member_here ms c.args.name.now c.args.members.now c.members.rest.now more (c.members.invariant.walks ms p w more e) c.in-Some-after_member_name.ensures.not_over in
      let value = some_same c.in-Some-after_member_name.value.now _ (c.in-Some-after_member_name.ensures.found n.key _ n.occurs) in
      let above = sym (c.compare_wanted.ensures.compares n.key _ n.occurs) ∙ c.in-Greater.is in
      let others = some_same c.in-Some-after_key.others.now _ (c.in-Some-after_key.ensures.found n.value n.readable _ value) in
      member_passed ms c.args.name.now c.args.members.now c.members.rest.now more c.in-Some-after_key.others.now n above others;
  within = omega (arith, c.in-Some-after_key.ensures.shorter, c.in-Some-after_member_name.ensures.shorter, c.members.invariant.within);
  next = c.compare_wanted.ensures.next;
}

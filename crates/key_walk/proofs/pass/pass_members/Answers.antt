use Rattle.std.proofs.Common.{arith, sym, ◌∙◌}
use Rattle.key_value.proofs.Texts.{none_some, some_same}
use Rattle.key_walk.proofs.Passing.{begins_with, below_left, ended, first_here, pass_begun, passes_on, stops_above, stops_at}
use Rattle.jsonb_spec.specs.Keys.{IsBelowKeys}
use Rattle.std.proofs.Common.{subst}
use Rattle.key_walk.proofs.pass.pass_members.Goals as goal

pub members-init : goal.members-init
members-init c = record { passes = pass_begun c.args.members.now c.args.name.now; within = omega arith }

pub returns-in-Less-clause-passed : goal.returns-in-Less-clause-passed
returns-in-Less-clause-passed c = λ ms h text e n.
    let p = c.members.invariant.passes ms h text e n in
    stops_above ms text c.members.rest p (below_left p.others text c.members.rest.now c.compare_key.result p.readable p.occurs (c.compare_key.ensures.compares text n) c.in-Less.is)

pub returns-in_default-clause-passed : goal.returns-in_default-clause-passed
returns-in_default-clause-passed c = λ ms h text e n.
    let p = c.members.invariant.passes ms h text e n in
    let first = first_here p.others c.members.rest.now p.readable p.occurs (c.compare_key.ensures.not_over text n c.in-Equal.is) in
    let equal = sym (c.compare_key.ensures.compares text n first.key _ first.occurs) ∙ c.in-Equal.is in
    absurd (none_some _ (c.in_default.ensures.found _ (begins_with text c.members.rest.now c.args.name.now p.others first n equal)))

pub returns-in-Equal-clause-passed : goal.returns-in-Equal-clause-passed
returns-in-Equal-clause-passed c = λ ms h text e n.
    let p = c.members.invariant.passes ms h text e n in
    let first = first_here p.others c.members.rest.now p.readable p.occurs (c.compare_key.ensures.not_over text n c.in-Equal.is) in
    let equal = sym (c.compare_key.ensures.compares text n first.key _ first.occurs) ∙ c.in-Equal.is in
    stops_at ms text c.members.rest c.in-Some.value p first equal
    (some_same c.in-Some.value.now _ (c.in-Some.ensures.found _ (begins_with text c.members.rest.now c.args.name.now p.others first n equal)))

pub returns-then-is_over-clause-passed : goal.returns-then-is_over-clause-passed
returns-then-is_over-clause-passed c = λ ms h text e n.
    let p = c.members.invariant.passes ms h text e n in
    let over = c.is_over.ensures.yes c.if-is_over.true in
    stops_above ms text c.members.rest p (subst (IsBelowKeys text) (sym (ended p.others c.members.rest.now over.0 p.readable p.occurs over.1)) tt)

pub returns-in_default-after_member_name-clause-passed : goal.returns-in_default-after_member_name-clause-passed
returns-in_default-after_member_name-clause-passed c = λ ms h text e n.
    let p = c.members.invariant.passes ms h text e n in
    let first = first_here p.others c.members.rest.now p.readable p.occurs (c.is_over.ensures.no c.if-is_over.false) in
    absurd (none_some _ (c.in_default-after_member_name.ensures.found first.key _ first.occurs))

pub returns-in_default-after_key-clause-passed : goal.returns-in_default-after_key-clause-passed
returns-in_default-after_key-clause-passed c = λ ms h text e n.
    let p = c.members.invariant.passes ms h text e n in
    let first = first_here p.others c.members.rest.now p.readable p.occurs c.in-Some-after_member_name.ensures.not_over in
    let value = some_same c.in-Some-after_member_name.value.now _ (c.in-Some-after_member_name.ensures.found first.key _ first.occurs) in
    absurd (none_some _ (c.in_default-after_key.ensures.found first.value first.readable _ value))

pub members-preserved : goal.members-preserved
members-preserved c = record {
  passes = λ ms h text e n.
      let p = c.members.invariant.passes ms h text e n in
      let first = first_here p.others c.members.rest.now p.readable p.occurs c.in-Some-after_member_name.ensures.not_over in
      let value = some_same c.in-Some-after_member_name.value.now _ (c.in-Some-after_member_name.ensures.found first.key _ first.occurs) in
      let greater = sym (c.compare_key.ensures.compares text n first.key _ first.occurs) ∙ c.in-Greater.is in
      passes_on ms text c.members.rest.now c.in-Some-after_key.others.now p first greater
      (some_same c.in-Some-after_key.others.now _ (c.in-Some-after_key.ensures.found first.value first.readable _ value));
  within = omega (arith, c.in-Some-after_key.ensures.shorter, c.in-Some-after_member_name.ensures.shorter, c.members.invariant.within);
}

use Rattle.std.proofs.Common.{Ok, refl, sym, subst, ◌∙◌, ◌++◌}
use Rattle.jsonb_spec.specs.SortKey.Open.{members}
use Rattle.jsonb_spec.specs.SortKey.{members_key}
use Rattle.key_edit.specs.Spots.{OccursFirst}
use Rattle.key_edit.proofs.Spotted.{at_first, member_next, member_over, member_there, no_first}
use Rattle.key_edit.proofs.spot.member_spot.Goals as goal

pub members-init : goal.members-init
members-init c = record { walks = λ ms p w more e. record { left = ms; readable = (p, w); occurs = e; whole = λ spot at. at } }

pub returns-in_err-value : goal.returns-in_err-value
returns-in_err-value c = record {
  spot = λ ms p w more e depth_left f.
      let l = c.members.invariant.walks ms p w more e in
      absurd (no_first (members l.left) more c.in_err-value.field-0.0 (c.in_err-value.ensures.first (members l.left) refl l.readable more l.occurs));
}

pub returns-in_default : goal.returns-in_default
returns-in_default c = record {
  spot = λ ms p w more e depth_left f.
      let l = c.members.invariant.walks ms p w more e in
      let first = subst (λ answer. OccursFirst (members l.left) more (Ok answer)) c.in_default.is (c.in_ok-value.ensures.first (members l.left) refl l.readable more l.occurs) in
      member_there c.args.name.now ms c.args.members.now more depth_left c.no_part.result p w f e (l.whole c.no_part.result (member_over l.left c.args.name.now c.members.rest.now more c.no_part.result first l.occurs c.no_part.ensures));
}

pub returns-in-Less : goal.returns-in-Less
returns-in-Less c = record {
  spot = λ ms p w more e depth_left f.
      let l = c.members.invariant.walks ms p w more e in
      let first = subst (λ answer. OccursFirst (members l.left) more (Ok answer)) c.in-Some.is (c.in_ok-value.ensures.first (members l.left) refl l.readable more l.occurs) in
      let m = member_next l.left c.members.rest.now more c.in-Some.value l.readable l.occurs first in
      let less = sym ((c.compare_name-order.ensures.compares m.key c.in-Some.value.now m.entry).reported) ∙ c.in-Less.is in
      let spot = c.no_part-in-Less.result in
      let missed = c.no_part-in-Less.ensures in
      member_there c.args.name.now ms c.args.members.now more depth_left spot p w f e (at_first ms c.args.name.now c.members.rest.now more c.in-Some.value.now spot l m _ less (missed.0, missed.1 ∙ m.occurs));
}

pub returns-in-Equal : goal.returns-in-Equal
returns-in-Equal c = record {
  spot = λ ms p w more e depth_left f.
      let l = c.members.invariant.walks ms p w more e in
      let first = subst (λ answer. OccursFirst (members l.left) more (Ok answer)) c.in-Some.is (c.in_ok-value.ensures.first (members l.left) refl l.readable more l.occurs) in
      let m = member_next l.left c.members.rest.now more c.in-Some.value l.readable l.occurs first in
      let equal = sym ((c.compare_name-order.ensures.compares m.key c.in-Some.value.now m.entry).reported) ∙ c.in-Equal.is in
      member_there c.args.name.now ms c.args.members.now more depth_left _ p w f e (at_first ms c.args.name.now c.members.rest.now more c.in-Some.value.now _ l m _ equal (refl, m.entry, m.value_is));
}

pub returns-in_err-rest : goal.returns-in_err-rest
returns-in_err-rest c = record {
  spot = λ ms p w more e depth_left f.
      let l = c.members.invariant.walks ms p w more e in
      let first = subst (λ answer. OccursFirst (members l.left) more (Ok answer)) c.in-Some.is (c.in_ok-value.ensures.first (members l.left) refl l.readable more l.occurs) in
      let m = member_next l.left c.members.rest.now more c.in-Some.value l.readable l.occurs first in
      absurd (c.in_err-rest.ensures.behind m.tree m.readable (members_key m.others ++ more) m.value_is);
}

pub members-preserved : goal.members-preserved
members-preserved c = record {
  walks = λ ms p w more e.
      let l = c.members.invariant.walks ms p w more e in
      let first = subst (λ answer. OccursFirst (members l.left) more (Ok answer)) c.in-Some.is (c.in_ok-value.ensures.first (members l.left) refl l.readable more l.occurs) in
      let m = member_next l.left c.members.rest.now more c.in-Some.value l.readable l.occurs first in
      let greater = sym ((c.compare_name-order.ensures.compares m.key c.in-Some.value.now m.entry).reported) ∙ c.in-Greater.is in
      record {
        left = m.others;
        readable = m.others_open;
        occurs = c.in_ok-rest.ensures.behind m.tree m.readable (members_key m.others ++ more) m.value_is;
        whole = λ spot at. at_first ms c.args.name.now c.members.rest.now more c.in-Some.value.now spot l m _ greater at;
      };
}

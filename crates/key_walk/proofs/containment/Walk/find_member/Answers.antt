use Rattle.std.proofs.Common.{◌++◌, refl, sym, ap, ◌∙◌, arith}
use Rattle.key_value.proofs.Texts.{none_some, some_same}
use Rattle.key_walk.proofs.Beside.{members_ahead, no_member_ahead, member_ahead, member_passed, member_past, member_is}
use Rattle.key_walk.proofs.Holding.{readable_up}
use Rattle.key_walk.proofs.Walked.{moved_on, same_key}
use Rattle.jsonb_spec.specs.SortKey.{text_key}
use Rattle.key_walk.proofs.containment.Walk.find_member.Goals as goal

pub members-init : goal.members-init
members-init c = record {
  passes = λ depth l ms h name more named occurs. members_ahead depth ms name _ _ more h occurs;
  keys = (refl, refl, refl);
  theirs = refl;
}

pub returns-clause-found : goal.returns-clause-found
returns-clause-found c = λ depth l ms h name more behind w.
    let theirs = some_same c.in-Some.theirs.now behind (c.in-Some.ensures.found name behind w.1.is) in
    let named = c.front-name.ensures (text_key name) (w.1.is ∙ ap (λ b. text_key name ++ b) (sym theirs)) in
    let over = c.is_over.ensures.yes c.members-test.false in
    no_member_ahead depth ms name _ _ more over.0 (c.members.invariant.passes depth l ms h name more named w.0) over.1

pub returns-in-Greater-clause-found : goal.returns-in-Greater-clause-found
returns-in-Greater-clause-found c = λ depth l ms h name more behind w.
    let theirs = some_same c.in-Some.theirs.now behind (c.in-Some.ensures.found name behind w.1.is) in
    let named = c.front-name.ensures (text_key name) (w.1.is ∙ ap (λ b. text_key name ++ b) (sym theirs)) in
    let n = member_ahead depth ms name _ _ more (c.members.invariant.passes depth l ms h name more named w.0) (c.is_over.ensures.no c.members-test.true) in
    member_past depth ms name _ _ more n (sym ((c.compare_names-order.ensures.compares n.first _ name n.occurs.is named).reported) ∙ c.in-Greater.is)

pub returns-in-Equal-clause-found : goal.returns-in-Equal-clause-found
returns-in-Equal-clause-found c = λ depth l ms h name more behind w.
    let theirs = some_same c.in-Some.theirs.now behind (c.in-Some.ensures.found name behind w.1.is) in
    let named = c.front-name.ensures (text_key name) (w.1.is ∙ ap (λ b. text_key name ++ b) (sym theirs)) in
    let n = member_ahead depth ms name _ _ more (c.members.invariant.passes depth l ms h name more named w.0) (c.is_over.ensures.no c.members-test.true) in
    let same = sym ((c.compare_names-order.ensures.compares n.first _ name n.occurs.is named).reported) ∙ c.in-Equal.is in
    let value = (c.compare_names-order.ensures.compares n.first _ name n.occurs.is named).behind c.in-Equal.is in
    record {
      value = n.value;
      readable = n.readable;
      others = n.others;
      have_readable = n.have_readable;
      same = member_is depth ms name _ _ more n same;
      occurs = (moved_on _ _ (text_key n.first) _ _ n.occurs value, same_key c.args.self.now.other.now c.members.self.other.now _ behind c.members.invariant.keys.1 (moved_on _ _ (text_key name) _ behind w.1 theirs));
    }

pub returns-in_default-after_text-clause-found : goal.returns-in_default-after_text-clause-found
returns-in_default-after_text-clause-found c = λ depth l ms h name more behind w.
    let theirs = some_same c.in-Some.theirs.now behind (c.in-Some.ensures.found name behind w.1.is) in
    let named = c.front-name.ensures (text_key name) (w.1.is ∙ ap (λ b. text_key name ++ b) (sym theirs)) in
    let n = member_ahead depth ms name _ _ more (c.members.invariant.passes depth l ms h name more named w.0) (c.is_over.ensures.no c.members-test.true) in
    absurd (none_some _ (c.in_default-after_text.ensures.found n.first _ n.occurs.is))

pub returns-in_default-after_key-clause-found : goal.returns-in_default-after_key-clause-found
returns-in_default-after_key-clause-found c = λ depth l ms h name more behind w.
    let theirs = some_same c.in-Some.theirs.now behind (c.in-Some.ensures.found name behind w.1.is) in
    let named = c.front-name.ensures (text_key name) (w.1.is ∙ ap (λ b. text_key name ++ b) (sym theirs)) in
    let n = member_ahead depth ms name _ _ more (c.members.invariant.passes depth l ms h name more named w.0) (c.is_over.ensures.no c.members-test.true) in
    let value = some_same c.in-Some-after_text.value.now _ (c.in-Some-after_text.ensures.found n.first _ n.occurs.is) in
    absurd (none_some _ (c.in_default-after_key.ensures.found n.value (readable_up n.value depth 512 (omega (arith, l)) n.readable) _ value))

pub members-preserved : goal.members-preserved
members-preserved c = record {
  passes = λ depth l ms h name more named occurs.
      let n = member_ahead depth ms name _ _ more (c.members.invariant.passes depth l ms h name more named occurs) (c.is_over.ensures.no c.members-test.true) in
      let less = sym ((c.compare_names-order.ensures.compares n.first _ name n.occurs.is named).reported) ∙ c.in-Less.is in
      let value = some_same c.in-Some-after_text.value.now _ (c.in-Some-after_text.ensures.found n.first _ n.occurs.is) in
      let others = some_same c.in-Some-after_key.ours.now _ (c.in-Some-after_key.ensures.found n.value (readable_up n.value depth 512 (omega (arith, l)) n.readable) _ value) in
      member_passed depth ms name _ _ more c.in-Some-after_text.value.now c.in-Some-after_key.ours.now n less others;
  keys = c.members.invariant.keys;
  theirs = c.members.invariant.theirs;
}

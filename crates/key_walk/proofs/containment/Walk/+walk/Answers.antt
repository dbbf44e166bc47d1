use Rattle.std.proofs.Common.{◌≡◌, ◌++◌, true, false, length, refl, sym, ap, subst, ◌∙◌, arith}
use Rattle.jsonb_spec.specs.SortKey.Readable.{IsReadableAt}
use Rattle.key_value.proofs.FirstBytes.{no_key}
use Rattle.key_value.proofs.Texts.{none_some}
use Rattle.jsonb_spec.specs.Containment.{holds}
use Rattle.jsonb_spec.specs.SortKey.Open.{members, open_key, end_key}
use Rattle.jsonb_spec.specs.SortKey.Parts.{opened_tree}
use Rattle.key_walk.specs.SideBySide.{IsLeft}
use Rattle.key_walk.proofs.Beside.{item_ahead, no_item_ahead, item_is, item_passed, item_inside}
use Rattle.key_walk.proofs.Holding.{members_open, readable_up}
use Rattle.key_walk.proofs.Scalars.{scalar_there}
use Rattle.key_walk.proofs.Turns.{item_there, all_items_held, item_sought, item_not_held, item_held, all_held, one_sought, one_missing, one_not_held, one_held, finds_none, finds_one, no_container, both_open, container_there, inside, no_ok}
use Rattle.key_walk.proofs.Walked.{reported_no, reported_yes, passed, same_end, some_number, no_number}
use Rattle.jsonb_spec.specs.SortKey.{key_of, items_key, members_key}
use Rattle.key_walk.proofs.containment.Walk.+walk.Goals as goal

-- ---- one item

pub has_item-returns-in_default-clause-held : goal.has_item-returns-in_default-clause-held
has_item-returns-in_default-clause-held m c = λ depth at l ts u h r more behind ends size theirs. absurd (no_key depth u r c.args.self.now.theirs.now behind theirs.is c.in_default.ensures.cases)

pub has_item-returns-then-is_none-clause-held : goal.has_item-returns-then-is_none-clause-held
has_item-returns-then-is_none-clause-held m c = λ depth at l ts u h r more behind ends size theirs.
    let ours = c.last_bytes-self.ensures.last (items_key ts ++ more) ends size in
    let other = no_container c.in-Some.first.now c.opening.result c.if-is_none.ensures c.opening.ensures in
    let s = scalar_there depth u r c.in-Some.first.now _ c.args.self.now.theirs.now behind c.in-Some.ensures.cases.0 theirs.is other.0 other.1 in
    c.has_scalar_item.ensures.held depth depth l ts u h r s more behind (record { ends = ends; is = ours }, theirs)

pub has_item-returns-then-is_over-clause-held : goal.has_item-returns-then-is_over-clause-held
has_item-returns-then-is_over-clause-held m c = λ depth at l ts u h r more behind ends size theirs.
    let x = c.items.invariant.looks depth at l ts u h r more behind ends size theirs in
    let ours = c.last_bytes-self-in-items.ensures.last (items_key x.left ++ more) x.ends x.size in
    let over = c.is_over.ensures.yes c.if-is_over.true in
    reported_no _ (no_item_ahead depth ts u c.items.self.key.now c.last_bytes-self-in-items.result.now more over.0 (item_there depth ts u c.items.self c.items.item more behind c.last_bytes-self-in-items.result.now x ours) over.1)

pub has_item-returns-in_err-has_value-clause-held : goal.has_item-returns-in_err-has_value-clause-held
has_item-returns-in_err-has_value-clause-held m c = λ depth at l ts u h r more behind ends size theirs.
    let x = c.items.invariant.looks depth at l ts u h r more behind ends size theirs in
    let ours = c.last_bytes-self-in-items.ensures.last (items_key x.left ++ more) x.ends x.size in
    let n = item_ahead depth ts u c.items.self.key.now c.last_bytes-self-in-items.result.now more (item_there depth ts u c.items.self c.items.item more behind c.last_bytes-self-in-items.result.now x ours) (c.is_over.ensures.no c.if-is_over.false) in
    absurd (c.in_err-has_value.ensures.held depth (c.items.invariant.keys.2 ∙ at) (omega (arith, l)) n.item u n.readable r (items_key n.others ++ more) behind (n.occurs, x.theirs))

pub has_item-returns-then-branch-clause-held : goal.has_item-returns-then-branch-clause-held
has_item-returns-then-branch-clause-held m c = λ depth at l ts u h r more behind ends size theirs.
    let x = c.items.invariant.looks depth at l ts u h r more behind ends size theirs in
    let ours = c.last_bytes-self-in-items.ensures.last (items_key x.left ++ more) x.ends x.size in
    let n = item_ahead depth ts u c.items.self.key.now c.last_bytes-self-in-items.result.now more (item_there depth ts u c.items.self c.items.item more behind c.last_bytes-self-in-items.result.now x ours) (c.is_over.ensures.no c.if-is_over.false) in
    let reported = c.in_ok-has_value.ensures.held depth (c.items.invariant.keys.2 ∙ at) (omega (arith, l)) n.item u n.readable r (items_key n.others ++ more) behind (n.occurs, x.theirs) in
    let is = sym reported.0 ∙ c.if-branch.true in
    reported_yes _ (item_is depth ts u c.items.self.key.now c.last_bytes-self-in-items.result.now more n is) (item_inside depth n.others more behind c.has_value.new.self l n.are_readable (reported.1 is))

pub has_item-returns-in_default-behind_item-clause-held : goal.has_item-returns-in_default-behind_item-clause-held
has_item-returns-in_default-behind_item-clause-held m c = λ depth at l ts u h r more behind ends size theirs.
    let x = c.items.invariant.looks depth at l ts u h r more behind ends size theirs in
    let ours = c.last_bytes-self-in-items.ensures.last (items_key x.left ++ more) x.ends x.size in
    let n = item_ahead depth ts u c.items.self.key.now c.last_bytes-self-in-items.result.now more (item_there depth ts u c.items.self c.items.item more behind c.last_bytes-self-in-items.result.now x ours) (c.is_over.ensures.no c.if-is_over.false) in
    absurd (no_number _ (c.in_default-behind_item.ensures.found n.item (readable_up n.item depth 512 (omega (arith, l)) n.readable) (items_key n.others ++ more)
    (same_end c.items.self.key.now c.has_value.new.self.key.now _ c.in_ok-has_value.ensures.walks.keys.0 n.occurs.ends) (x.size ∙ ap length (sym ours ∙ n.occurs.is))))

pub has_item-items-preserved : goal.has_item-items-preserved
has_item-items-preserved m c = record {
  looks = λ depth at l ts u h r more behind ends size theirs.
      let x = c.items.invariant.looks depth at l ts u h r more behind ends size theirs in
      let ours = c.last_bytes-self-in-items.ensures.last (items_key x.left ++ more) x.ends x.size in
      let n = item_ahead depth ts u c.items.self.key.now c.last_bytes-self-in-items.result.now more (item_there depth ts u c.items.self c.items.item more behind c.last_bytes-self-in-items.result.now x ours) (c.is_over.ensures.no c.if-is_over.false) in
      let reported = c.in_ok-has_value.ensures.held depth (c.items.invariant.keys.2 ∙ at) (omega (arith, l)) n.item u n.readable r (items_key n.others ++ more) behind (n.occurs, x.theirs) in
      let isnt = sym reported.0 ∙ c.if-branch.false in
      let others = some_number c.in-Some-behind_item.others _ (c.in-Some-behind_item.ensures.found n.item (readable_up n.item depth 512 (omega (arith, l)) n.readable) (items_key n.others ++ more)
      (same_end c.items.self.key.now c.has_value.new.self.key.now _ c.in_ok-has_value.ensures.walks.keys.0 n.occurs.ends) (x.size ∙ ap length (sym ours ∙ n.occurs.is))) in
      let p = item_passed depth ts u c.items.self.key.now c.last_bytes-self-in-items.result.now more (items_key n.others ++ more) n isnt refl in
      let there = same_end c.items.self.other.now c.has_value.new.self.other.now _ c.in_ok-has_value.ensures.walks.keys.1 x.theirs.ends in
      record {
        left = p.left;
        are_readable = p.are_readable;
        same = p.same;
        ends = same_end c.items.self.key.now c.has_value.new.self.key.now (items_key p.left ++ more) c.in_ok-has_value.ensures.walks.keys.0 p.occurs.ends;
        size = others ∙ ap length p.occurs.is;
        theirs = record { ends = there; is = c.last_bytes-self-in-items-2.ensures.last (key_of u ++ behind) there (ap length theirs.is) };
      };
  keys = (c.in_ok-has_value.ensures.walks.keys.0 ∙ c.items.invariant.keys.0, c.in_ok-has_value.ensures.walks.keys.1 ∙ c.items.invariant.keys.1, c.in_ok-has_value.ensures.walks.keys.2 ∙ c.items.invariant.keys.2);
  within = c.last_bytes-self-in-items-2.ensures.within;
}

-- ---- items

pub has_items-others-init : goal.has_items-others-init
has_items-others-init m c = record {
  held = λ depth at l ts us h g more behind w. record { theirs = us; are_readable = g; same = refl; inside = item_inside depth ts more (items_key us ++ behind) c.args.self.now l h w };
  keys = (refl, refl, refl);
  within = omega arith;
}

pub has_items-returns-in-Some-clause-held : goal.has_items-returns-in-Some-clause-held
has_items-returns-in-Some-clause-held m c = λ depth at l ts us h g more behind w.
    let x = c.others.invariant.held depth at l ts us h g more behind w in
    let all = all_items_held depth ts us c.others.self more behind c.in-Some.theirs.now x c.in-Some.ensures.some in
    reported_yes _ all.0 (record {
      inside = record {
        parts = x.inside.parts;
        is = x.inside.is;
        fits = x.inside.fits;
        occurs = (x.inside.occurs.0, passed _ _ _ (end_key false) c.in-Some.theirs.now behind x.inside.occurs.1 all.1 c.in-Some.ensures.some);
      };
      kind = refl;
    })

pub has_items-returns-in_err-has_item-clause-held : goal.has_items-returns-in_err-has_item-clause-held
has_items-returns-in_err-has_item-clause-held m c = λ depth at l ts us h g more behind w.
    let x = c.others.invariant.held depth at l ts us h g more behind w in
    let n = item_sought depth ts us c.others.self more behind x (λ tail e. absurd (none_some tail (c.in_default.ensures.found tail e))) in
    absurd (c.in_err-has_item.ensures.held depth (c.others.invariant.keys.2 ∙ at) l ts n.item h n.readable more (items_key n.others ++ behind) (same_end c.args.self.now.key.now c.others.self.key.now _ c.others.invariant.keys.0 w.0.ends) (ap length w.0.is) n.occurs)

pub has_items-returns-then-not-branch-clause-held : goal.has_items-returns-then-not-branch-clause-held
has_items-returns-then-not-branch-clause-held m c = λ depth at l ts us h g more behind w.
    let x = c.others.invariant.held depth at l ts us h g more behind w in
    let n = item_sought depth ts us c.others.self more behind x (λ tail e. absurd (none_some tail (c.in_default.ensures.found tail e))) in
    let reported = c.in_ok-has_item.ensures.held depth (c.others.invariant.keys.2 ∙ at) l ts n.item h n.readable more (items_key n.others ++ behind) (same_end c.args.self.now.key.now c.others.self.key.now _ c.others.invariant.keys.0 w.0.ends) (ap length w.0.is) n.occurs in
    reported_no _ (item_not_held depth ts us c.others.self more behind n (sym reported.0 ∙ c.if-not-branch.true))

pub has_items-others-preserved : goal.has_items-others-preserved
has_items-others-preserved m c = record {
  held = λ depth at l ts us h g more behind w.
      let x = c.others.invariant.held depth at l ts us h g more behind w in
      let n = item_sought depth ts us c.others.self more behind x (λ tail e. absurd (none_some tail (c.in_default.ensures.found tail e))) in
      let reported = c.in_ok-has_item.ensures.held depth (c.others.invariant.keys.2 ∙ at) l ts n.item h n.readable more (items_key n.others ++ behind) (same_end c.args.self.now.key.now c.others.self.key.now _ c.others.invariant.keys.0 w.0.ends) (ap length w.0.is) n.occurs in
      let is = sym reported.0 ∙ c.if-not-branch.false in
      item_held depth ts us c.others.self c.has_item.new.self more behind n is (reported.1 is);
  keys = (c.in_ok-has_item.ensures.walks.keys.0 ∙ c.others.invariant.keys.0, c.in_ok-has_item.ensures.walks.keys.1 ∙ c.others.invariant.keys.1, c.in_ok-has_item.ensures.walks.keys.2 ∙ c.others.invariant.keys.2);
  within = omega (arith, c.in_ok-has_item.ensures.walks.passed c.if-not-branch.false, c.others.invariant.within);
}

-- ---- members

pub has_members-members-init : goal.has_members-members-init
has_members-members-init m c = record {
  held = λ depth at l ms ns h g more behind w. record { ours = ms; theirs = ns; we_have = h; they_have = g; same = refl; occurs = w };
  keys = (refl, refl, refl);
  within = omega arith;
}

pub has_members-returns-in-Some-clause-held : goal.has_members-returns-in-Some-clause-held
has_members-returns-in-Some-clause-held m c = λ depth at l ms ns h g more behind w.
    let x = c.members.invariant.held depth at l ms ns h g more behind w in
    let all = all_held depth ms ns c.members.self more behind c.in-Some.theirs.now x c.in-Some.ensures.some in
    reported_yes _ all.0 (record {
      inside = record {
        parts = members x.ours;
        is = refl;
        fits = members_open x.ours depth 511 l x.we_have;
        occurs = (x.occurs.0, passed _ _ _ (end_key true) c.in-Some.theirs.now behind x.occurs.1 all.1 c.in-Some.ensures.some);
      };
      kind = refl;
    })

pub has_members-returns-in_err-find_member-clause-held : goal.has_members-returns-in_err-find_member-clause-held
has_members-returns-in_err-find_member-clause-held m c = λ depth at l ms ns h g more behind w.
    let x = c.members.invariant.held depth at l ms ns h g more behind w in
    let n = one_sought depth ms ns c.members.self more behind x (λ tail e. absurd (none_some tail (c.in_default.ensures.found tail e))) in
    absurd (c.in_err-find_member.ensures.found depth l n.ours n.we_have n.name more (key_of n.value ++ (members_key n.others ++ behind)) n.occurs)

pub has_members-returns-then-not-branch-clause-held : goal.has_members-returns-then-not-branch-clause-held
has_members-returns-then-not-branch-clause-held m c = λ depth at l ms ns h g more behind w.
    let x = c.members.invariant.held depth at l ms ns h g more behind w in
    let n = one_sought depth ms ns c.members.self more behind x (λ tail e. absurd (none_some tail (c.in_default.ensures.found tail e))) in
    let f = c.in_ok-find_member.ensures.found depth l n.ours n.we_have n.name more (key_of n.value ++ (members_key n.others ++ behind)) n.occurs in
    reported_no _ (one_missing depth ms ns c.members.self more behind n (finds_none depth n.ours n.name c.find_member.new.self more _ c.in_ok-find_member.field-0 c.if-not-branch.true f))

pub has_members-returns-in_err-has_value-clause-held : goal.has_members-returns-in_err-has_value-clause-held
has_members-returns-in_err-has_value-clause-held m c = λ depth at l ms ns h g more behind w.
    let x = c.members.invariant.held depth at l ms ns h g more behind w in
    let n = one_sought depth ms ns c.members.self more behind x (λ tail e. absurd (none_some tail (c.in_default.ensures.found tail e))) in
    let f = c.in_ok-find_member.ensures.found depth l n.ours n.we_have n.name more (key_of n.value ++ (members_key n.others ++ behind)) n.occurs in
    let one = finds_one depth n.ours n.name c.find_member.new.self more _ c.in_ok-find_member.field-0 c.if-not-branch.false f in
    absurd (c.in_err-has_value.ensures.held depth (c.in_ok-find_member.ensures.keys.2 ∙ (c.members.invariant.keys.2 ∙ at)) (omega (arith, l)) one.value n.value one.readable n.readable (members_key one.others ++ more) (members_key n.others ++ behind) one.occurs)

pub has_members-returns-then-not-branch-2-clause-held : goal.has_members-returns-then-not-branch-2-clause-held
has_members-returns-then-not-branch-2-clause-held m c = λ depth at l ms ns h g more behind w.
    let x = c.members.invariant.held depth at l ms ns h g more behind w in
    let n = one_sought depth ms ns c.members.self more behind x (λ tail e. absurd (none_some tail (c.in_default.ensures.found tail e))) in
    let f = c.in_ok-find_member.ensures.found depth l n.ours n.we_have n.name more (key_of n.value ++ (members_key n.others ++ behind)) n.occurs in
    let one = finds_one depth n.ours n.name c.find_member.new.self more _ c.in_ok-find_member.field-0 c.if-not-branch.false f in
    let reported = c.in_ok-has_value.ensures.held depth (c.in_ok-find_member.ensures.keys.2 ∙ (c.members.invariant.keys.2 ∙ at)) (omega (arith, l)) one.value n.value one.readable n.readable (members_key one.others ++ more) (members_key n.others ++ behind) one.occurs in
    reported_no _ (one_not_held depth ms ns c.members.self c.find_member.new.self more behind _ n one (sym reported.0 ∙ c.if-not-branch-2.true))

pub has_members-members-preserved : goal.has_members-members-preserved
has_members-members-preserved m c = record {
  held = λ depth at l ms ns h g more behind w.
      let x = c.members.invariant.held depth at l ms ns h g more behind w in
      let n = one_sought depth ms ns c.members.self more behind x (λ tail e. absurd (none_some tail (c.in_default.ensures.found tail e))) in
      let f = c.in_ok-find_member.ensures.found depth l n.ours n.we_have n.name more (key_of n.value ++ (members_key n.others ++ behind)) n.occurs in
      let one = finds_one depth n.ours n.name c.find_member.new.self more _ c.in_ok-find_member.field-0 c.if-not-branch.false f in
      let reported = c.in_ok-has_value.ensures.held depth (c.in_ok-find_member.ensures.keys.2 ∙ (c.members.invariant.keys.2 ∙ at)) (omega (arith, l)) one.value n.value one.readable n.readable (members_key one.others ++ more) (members_key n.others ++ behind) one.occurs in
      let is = sym reported.0 ∙ c.if-not-branch-2.false in
      one_held depth ms ns c.members.self c.find_member.new.self c.has_value.new.self more behind _ n one is (reported.1 is);
  keys = (c.in_ok-has_value.ensures.walks.keys.0 ∙ (c.in_ok-find_member.ensures.keys.0 ∙ c.members.invariant.keys.0), c.in_ok-has_value.ensures.walks.keys.1 ∙ (c.in_ok-find_member.ensures.keys.1 ∙ c.members.invariant.keys.1), c.in_ok-has_value.ensures.walks.keys.2 ∙ (c.in_ok-find_member.ensures.keys.2 ∙ c.members.invariant.keys.2));
  within = omega (arith, c.in_ok-has_value.ensures.walks.passed c.if-not-branch-2.false, c.in_ok-find_member.ensures.within c.if-not-branch.false, c.members.invariant.within);
}

-- ---- an object or an array

pub has_parts-returns-in_default-clause-held : goal.has_parts-returns-in_default-clause-held
has_parts-returns-in_default-clause-held m c = λ depth at l t o is p q more behind w. absurd (no_key depth t p c.args.self.now.ours.now more w.0.is c.in_default.ensures.cases)

pub has_parts-returns-in_err-found-clause-held : goal.has_parts-returns-in_err-found-clause-held
has_parts-returns-in_err-found-clause-held m c = λ depth at l t o is p q more behind w.
    let x = both_open depth c.in-Some-checked_sub.inner (omega (arith, at, c.in-Some-checked_sub.ensures)) c.args.object t o is p q c.in-Some.mine.now c.in-Some-split_first.other.now
    c.args.self.now.ours.now c.args.self.now.theirs.now c.in-Some.ours.now c.in-Some-split_first.theirs.now more behind c.in-Some.ensures.cases.0 w.0.is c.in-Some-split_first.ensures.cases.0 w.1.is c.if-mine-other.false in
    let ours = inside c.args.self.now.key.now c.args.self.now.ours.now (key_of t ++ more) c.in-Some.ours.now (open_key x.mine ++ more) c.in-Some.mine.now w.0 c.in-Some.ensures.cases.0 x.ours_are in
    let theirs = inside c.args.self.now.other.now c.args.self.now.theirs.now (key_of (opened_tree o) ++ behind) c.in-Some-split_first.theirs.now (open_key o ++ behind) c.in-Some-split_first.other.now w.1 c.in-Some-split_first.ensures.cases.0 x.theirs_are in
    absurd (c.in_err-found.ensures.held c.in-Some-checked_sub.inner refl (omega (arith, at, l, c.in-Some-checked_sub.ensures)) x.mine o x.is is x.readable x.other_readable more behind (ours, theirs))

pub has_parts-returns-clause-held : goal.has_parts-returns-clause-held
has_parts-returns-clause-held m c = λ depth at l t o is p q more behind w.
    let x = both_open depth c.in-Some-checked_sub.inner (omega (arith, at, c.in-Some-checked_sub.ensures)) c.args.object t o is p q c.in-Some.mine.now c.in-Some-split_first.other.now
    c.args.self.now.ours.now c.args.self.now.theirs.now c.in-Some.ours.now c.in-Some-split_first.theirs.now more behind c.in-Some.ensures.cases.0 w.0.is c.in-Some-split_first.ensures.cases.0 w.1.is c.if-mine-other.false in
    let ours = inside c.args.self.now.key.now c.args.self.now.ours.now (key_of t ++ more) c.in-Some.ours.now (open_key x.mine ++ more) c.in-Some.mine.now w.0 c.in-Some.ensures.cases.0 x.ours_are in
    let theirs = inside c.args.self.now.other.now c.args.self.now.theirs.now (key_of (opened_tree o) ++ behind) c.in-Some-split_first.theirs.now (open_key o ++ behind) c.in-Some-split_first.other.now w.1 c.in-Some-split_first.ensures.cases.0 x.theirs_are in
    let reported = c.in_ok-found.ensures.held c.in-Some-checked_sub.inner refl (omega (arith, at, l, c.in-Some-checked_sub.ensures)) x.mine o x.is is x.readable x.other_readable more behind (ours, theirs) in
    let same : holds t (opened_tree o) ≡ holds (opened_tree x.mine) (opened_tree o) = ap (λ v. holds v (opened_tree o)) x.whole in
    (reported.0 ∙ sym same, λ held. let s = reported.1 (sym same ∙ held) in record { inside = record { parts = s.inside.parts; is = s.inside.is; fits = s.inside.fits; occurs = s.inside.occurs }; kind = s.kind })

-- ---- a value

pub has_value-returns-in_default-clause-held : goal.has_value-returns-in_default-clause-held
has_value-returns-in_default-clause-held m c = λ depth at l t u p q more behind w. absurd (no_key depth u q c.args.self.now.theirs.now behind w.1.is c.in_default.ensures.cases)

pub has_value-returns-in_err-has_parts-clause-held : goal.has_value-returns-in_err-has_parts-clause-held
has_value-returns-in_err-has_parts-clause-held m c = λ depth at l t u p q more behind w.
    let o = container_there depth u q c.in-Some.first.now _ c.args.self.now.theirs.now behind c.in-Some.ensures.cases.0 w.1.is c.in-Some-opening.object c.in-Some-opening.ensures in
    absurd (c.in_err-has_parts.ensures.held depth at l t o.all o.is p (subst (IsReadableAt depth) (sym o.whole) q) more behind (w.0, subst (λ v. IsLeft c.args.self.now.other.now c.args.self.now.theirs.now (key_of v ++ behind)) (sym o.whole) w.1))

pub has_value-returns-then-not-branch-clause-held : goal.has_value-returns-then-not-branch-clause-held
has_value-returns-then-not-branch-clause-held m c = λ depth at l t u p q more behind w.
    let o = container_there depth u q c.in-Some.first.now _ c.args.self.now.theirs.now behind c.in-Some.ensures.cases.0 w.1.is c.in-Some-opening.object c.in-Some-opening.ensures in
    let reported = c.in_ok-has_parts.ensures.held depth at l t o.all o.is p (subst (IsReadableAt depth) (sym o.whole) q) more behind (w.0, subst (λ v. IsLeft c.args.self.now.other.now c.args.self.now.theirs.now (key_of v ++ behind)) (sym o.whole) w.1) in
    reported_no (holds t u) (sym (ap (holds t) o.whole) ∙ (sym reported.0 ∙ c.if-not-branch.true))

pub has_value-returns-in_err-close-clause-held : goal.has_value-returns-in_err-close-clause-held
has_value-returns-in_err-close-clause-held m c = λ depth at l t u p q more behind w.
    let o = container_there depth u q c.in-Some.first.now _ c.args.self.now.theirs.now behind c.in-Some.ensures.cases.0 w.1.is c.in-Some-opening.object c.in-Some-opening.ensures in
    let reported = c.in_ok-has_parts.ensures.held depth at l t o.all o.is p (subst (IsReadableAt depth) (sym o.whole) q) more behind (w.0, subst (λ v. IsLeft c.args.self.now.other.now c.args.self.now.theirs.now (key_of v ++ behind)) (sym o.whole) w.1) in
    absurd (no_ok _ _ (c.in_err-close.ensures.closed c.in-Some-opening.object more behind (reported.1 (sym reported.0 ∙ c.if-not-branch.false))).0)

pub has_value-returns-clause-held : goal.has_value-returns-clause-held
has_value-returns-clause-held m c = λ depth at l t u p q more behind w.
    let o = container_there depth u q c.in-Some.first.now _ c.args.self.now.theirs.now behind c.in-Some.ensures.cases.0 w.1.is c.in-Some-opening.object c.in-Some-opening.ensures in
    let reported = c.in_ok-has_parts.ensures.held depth at l t o.all o.is p (subst (IsReadableAt depth) (sym o.whole) q) more behind (w.0, subst (λ v. IsLeft c.args.self.now.other.now c.args.self.now.theirs.now (key_of v ++ behind)) (sym o.whole) w.1) in
    let is = sym reported.0 ∙ c.if-not-branch.false in
    reported_yes (holds t u) (sym (ap (holds t) o.whole) ∙ is) (c.in_ok-close.ensures.closed c.in-Some-opening.object more behind (reported.1 is)).1

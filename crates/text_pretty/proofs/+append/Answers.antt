use Rattle.std.proofs.Common.{◌≡◌, List, false, ◌+◌, [], ◌∷◌, ◌++◌, drop, refl, sym, subst, ap, ◌∙◌, arith, rules, string_bytes, append-nil, length, ◌≢◌}
use Rattle.jsonb_spec.specs.Proper.{HaveProperParts}
use Rattle.jsonb_spec.specs.Text.StringText.{quoted_text}
use Rattle.jsonb_spec.specs.Text.{with_commas, members_have_texts}
use Rattle.jsonb_value.specs.View.{view, trees_view, members_view}
use Rattle.jsonb_core.proofs.Appending.Appended.{begun, goes_on, fits, on_ok, on_err, retained_on, appends_then, lacks_first, extended, appends_if}
use Rattle.jsonb_core.proofs.Appending.Pieces.{texts_left, comma_done, comma_fits, texts_left_have, first_has_text}
use Rattle.jsonb_value.proofs.Appending.NextParts.{next_text, next_member_text, next_proper, next_proper_member}
use Rattle.jsonb_value.proofs.Values.Accessors.{view-Array, view-Object}
use Rattle.jsonb_value.proofs.Values.Keys.{KeysAscend-members_view}
use Rattle.jsonb_value.proofs.Values.Members.{Entry}
use Rattle.jsonb_spec.specs.Indented.{new_line, indented_text, item_lines, member_lines}
use Rattle.text_pretty.proofs.Lines.{next_item, next_member, line_done, line_fits, key_split, key_done, array_is, object_is, array_long, object_long}
use Rattle.text_pretty.proofs.+append.Goals as goal

pub append-returns-in-Array-clause-appends : goal.append-returns-in-Array-clause-appends
append-returns-in-Array-clause-appends t c = rw (ap view c.in-Array.is ∙ view-Array c.in-Array.items) c.append_items.ensures.appends

pub append-returns-in-Object-clause-appends : goal.append-returns-in-Object-clause-appends
append-returns-in-Object-clause-appends t c = rw (ap view c.in-Object.is ∙ view-Object c.in-Object.members) c.append_members.ensures.appends

pub append_item_lines-items-preserved : goal.append_item_lines-items-preserved
append_item_lines-items-preserved t c =
    let all = c.args.items.now.items in
    let item = c.item-item.result in
    let text = indented_text c.args.indent c.args.margin (view item) in
    let rest = texts_left false (item_lines c.args.indent c.args.margin (trees_view (drop (c.items.item-index + 1) all))) ++ [] in
    let next = next_item c.args.indent c.args.margin all c.items.item-index item (search rules) (search rules) in
    let due = comma_done c.items.is_first _ _ _ _ [] c.append_comma.new.buf.items _ _ next c.items.invariant.underway c.in_ok-append_comma.ensures.appends.ok in
    let due = line_done _ _ _ (new_line c.args.margin) text rest c.append_line.new.buf.items due c.in_ok-append_line.ensures.appends.ok in
    record {
      underway = goes_on c.append.new.buf.items text rest due refl c.in_ok-append.ensures.appends.ok;
      texts = texts_left_have _ _ _ _ c.items.invariant.texts (next_text all c.items.item-index item (search rules) (search rules)) c.in_ok-append.ensures.appends.holds;
      proper = λ others. c.items.invariant.proper (next_proper all c.items.item-index item (search rules) (search rules) c.in_ok-append.ensures.proper others);
      space = omega arith;
    }

pub append_item_lines-returns-in_err-append_comma-clause-appends : goal.append_item_lines-returns-in_err-append_comma-clause-appends
append_item_lines-returns-in_err-append_comma-clause-appends t c =
    let next = next_item c.args.indent c.args.margin c.args.items.now.items c.items.item-index c.item-item.result (search rules) (search rules) in
    let space = comma_fits c.items.is_first _ _ _ _ [] _ _ next c.items.invariant.underway in
    record { ok = search rules; holds = search rules; retained = retained_on c.items.invariant.underway c.in_err-append_comma.ensures.appends.retained; full = on_err c.from_residual.result (λ texts. omega (arith, space, c.in_err-append_comma.ensures.appends.full)); capacity = search rules }

pub append_item_lines-returns-in_err-append_line-clause-appends : goal.append_item_lines-returns-in_err-append_line-clause-appends
append_item_lines-returns-in_err-append_line-clause-appends t c =
    let all = c.args.items.now.items in
    let item = c.item-item.result in
    let text = indented_text c.args.indent c.args.margin (view item) in
    let rest = texts_left false (item_lines c.args.indent c.args.margin (trees_view (drop (c.items.item-index + 1) all))) ++ [] in
    let next = next_item c.args.indent c.args.margin all c.items.item-index item (search rules) (search rules) in
    let due = comma_done c.items.is_first _ _ _ _ [] c.append_comma.new.buf.items _ _ next c.items.invariant.underway c.in_ok-append_comma.ensures.appends.ok in
    let space = line_fits _ _ _ (new_line c.args.margin) text rest due in
    record { ok = search rules; holds = search rules; retained = retained_on due c.in_err-append_line.ensures.appends.retained; full = on_err c.from_residual-in_err-append_line.result (λ texts. omega (arith, space, c.in_err-append_line.ensures.appends.full)); capacity = search rules }

pub append_item_lines-returns-in_err-append-clause-appends : goal.append_item_lines-returns-in_err-append-clause-appends
append_item_lines-returns-in_err-append-clause-appends t c =
    let all = c.args.items.now.items in
    let item = c.item-item.result in
    let text = indented_text c.args.indent c.args.margin (view item) in
    let rest = texts_left false (item_lines c.args.indent c.args.margin (trees_view (drop (c.items.item-index + 1) all))) ++ [] in
    let next = next_item c.args.indent c.args.margin all c.items.item-index item (search rules) (search rules) in
    let due = comma_done c.items.is_first _ _ _ _ [] c.append_comma.new.buf.items _ _ next c.items.invariant.underway c.in_ok-append_comma.ensures.appends.ok in
    let due = line_done _ _ _ (new_line c.args.margin) text rest c.append_line.new.buf.items due c.in_ok-append_line.ensures.appends.ok in
    let space = fits text rest due refl in
    let first = next_text all c.items.item-index item (search rules) (search rules) in
    record { ok = search rules; holds = search rules; retained = retained_on due c.in_err-append.ensures.appends.retained; full = on_err c.from_residual-in_err-append.result (λ texts. omega (arith, space, c.in_err-append.ensures.appends.full (first_has_text _ _ _ _ c.items.invariant.texts first texts))); capacity = search rules }

pub append_member_lines-members-preserved : goal.append_member_lines-members-preserved
append_member_lines-members-preserved t c =
    let entry : Entry = (c.in-Some.key.now, c.in-Some.value.now) in
    let key = quoted_text (string_bytes c.in-Some.key.now) in
    let text = indented_text c.args.indent c.args.margin (view c.in-Some.value.now) in
    let rest = texts_left false (member_lines c.args.indent c.args.margin (members_view c.next.new.self)) ++ [] in
    let next = next_member c.args.indent c.args.margin c.members.key-iterator c.next.new.self entry c.in-Some.ensures.steps in
    let due = comma_done c.members.is_first _ _ _ _ [] c.append_comma.new.buf.items _ _ next c.members.invariant.underway c.in_ok-append_comma.ensures.appends.ok in
    let due = line_done _ _ _ (new_line c.args.margin) (key ++ 58 ∷ 32 ∷ text) rest c.append_line.new.buf.items due c.in_ok-append_line.ensures.appends.ok in
    let due = key_done _ _ _ key text rest c.append_key.new.buf.items due c.in_ok-append_key.ensures.appends.ok in
    record {
      underway = goes_on c.append.new.buf.items text rest due refl c.in_ok-append.ensures.appends.ok;
      texts = texts_left_have _ _ _ _ c.members.invariant.texts (next_member_text c.members.key-iterator c.next.new.self entry c.in-Some.ensures.steps) c.in_ok-append.ensures.appends.holds;
      proper = λ others. c.members.invariant.proper (next_proper_member c.members.key-iterator c.next.new.self entry c.in-Some.ensures.steps c.in_ok-append_key.ensures.utf8 c.in_ok-append.ensures.proper others);
      space = omega arith;
    }

pub append_member_lines-returns-in_err-append_comma-clause-appends : goal.append_member_lines-returns-in_err-append_comma-clause-appends
append_member_lines-returns-in_err-append_comma-clause-appends t c =
    let next = next_member c.args.indent c.args.margin c.members.key-iterator c.next.new.self (c.in-Some.key.now, c.in-Some.value.now) c.in-Some.ensures.steps in
    let space = comma_fits c.members.is_first _ _ _ _ [] _ _ next c.members.invariant.underway in
    record { ok = search rules; holds = search rules; retained = retained_on c.members.invariant.underway c.in_err-append_comma.ensures.appends.retained; full = on_err c.from_residual.result (λ texts. omega (arith, space, c.in_err-append_comma.ensures.appends.full)); capacity = search rules }

pub append_member_lines-returns-in_err-append_line-clause-appends : goal.append_member_lines-returns-in_err-append_line-clause-appends
append_member_lines-returns-in_err-append_line-clause-appends t c =
    let key = quoted_text (string_bytes c.in-Some.key.now) in
    let text = indented_text c.args.indent c.args.margin (view c.in-Some.value.now) in
    let rest = texts_left false (member_lines c.args.indent c.args.margin (members_view c.next.new.self)) ++ [] in
    let next = next_member c.args.indent c.args.margin c.members.key-iterator c.next.new.self (c.in-Some.key.now, c.in-Some.value.now) c.in-Some.ensures.steps in
    let due = comma_done c.members.is_first _ _ _ _ [] c.append_comma.new.buf.items _ _ next c.members.invariant.underway c.in_ok-append_comma.ensures.appends.ok in
    let space = line_fits _ _ _ (new_line c.args.margin) (key ++ 58 ∷ 32 ∷ text) rest due in
    record { ok = search rules; holds = search rules; retained = retained_on due c.in_err-append_line.ensures.appends.retained; full = on_err c.from_residual-in_err-append_line.result (λ texts. omega (arith, space, c.in_err-append_line.ensures.appends.full)); capacity = search rules }

pub append_member_lines-returns-in_err-append_key-clause-appends : goal.append_member_lines-returns-in_err-append_key-clause-appends
append_member_lines-returns-in_err-append_key-clause-appends t c =
    let key = quoted_text (string_bytes c.in-Some.key.now) in
    let text = indented_text c.args.indent c.args.margin (view c.in-Some.value.now) in
    let rest = texts_left false (member_lines c.args.indent c.args.margin (members_view c.next.new.self)) ++ [] in
    let next = next_member c.args.indent c.args.margin c.members.key-iterator c.next.new.self (c.in-Some.key.now, c.in-Some.value.now) c.in-Some.ensures.steps in
    let due = comma_done c.members.is_first _ _ _ _ [] c.append_comma.new.buf.items _ _ next c.members.invariant.underway c.in_ok-append_comma.ensures.appends.ok in
    let due = line_done _ _ _ (new_line c.args.margin) (key ++ 58 ∷ 32 ∷ text) rest c.append_line.new.buf.items due c.in_ok-append_line.ensures.appends.ok in
    let space = fits (key ++ 58 ∷ 32 ∷ []) (text ++ rest) due (key_split key text rest) in
    record { ok = search rules; holds = search rules; retained = retained_on due c.in_err-append_key.ensures.appends.retained; full = on_err c.from_residual-in_err-append_key.result (λ texts. omega (arith, space, c.in_err-append_key.ensures.appends.full)); capacity = search rules }

pub append_member_lines-returns-in_err-append-clause-appends : goal.append_member_lines-returns-in_err-append-clause-appends
append_member_lines-returns-in_err-append-clause-appends t c =
    let key = quoted_text (string_bytes c.in-Some.key.now) in
    let text = indented_text c.args.indent c.args.margin (view c.in-Some.value.now) in
    let rest = texts_left false (member_lines c.args.indent c.args.margin (members_view c.next.new.self)) ++ [] in
    let next = next_member c.args.indent c.args.margin c.members.key-iterator c.next.new.self (c.in-Some.key.now, c.in-Some.value.now) c.in-Some.ensures.steps in
    let due = comma_done c.members.is_first _ _ _ _ [] c.append_comma.new.buf.items _ _ next c.members.invariant.underway c.in_ok-append_comma.ensures.appends.ok in
    let due = line_done _ _ _ (new_line c.args.margin) (key ++ 58 ∷ 32 ∷ text) rest c.append_line.new.buf.items due c.in_ok-append_line.ensures.appends.ok in
    let due = key_done _ _ _ key text rest c.append_key.new.buf.items due c.in_ok-append_key.ensures.appends.ok in
    let space = fits text rest due refl in
    let first = next_member_text c.members.key-iterator c.next.new.self (c.in-Some.key.now, c.in-Some.value.now) c.in-Some.ensures.steps in
    record { ok = search rules; holds = search rules; retained = retained_on due c.in_err-append.ensures.appends.retained; full = on_err c.from_residual-in_err-append.result (λ texts. omega (arith, space, c.in_err-append.ensures.appends.full (first_has_text _ _ _ _ c.members.invariant.texts first texts))); capacity = search rules }

pub append_member_lines-members-init : goal.append_member_lines-members-init
append_member_lines-members-init t c =
    let all = c.args.members.now.entries in
    let whole : c.into_iter-key-iterator.result ≡ all = c.into_iter-key-iterator.ensures.into_iter_gives ∙ c.iter-key-items.ensures.rest in
    let text = λ (es : List Entry). with_commas (member_lines c.args.indent c.args.margin (members_view es)) ++ [] in
    record {
      underway = goes_on c.args.buf.now.items [] (text c.into_iter-key-iterator.result) (begun c.args.buf.now.items (with_commas (member_lines c.args.indent c.args.margin (members_view all)))) (sym (append-nil _) ∙ ap text (sym whole)) (sym (append-nil c.args.buf.now.items));
      texts = ap (λ es. members_have_texts (members_view es)) (sym whole);
      proper = λ parts. (KeysAscend-members_view all c.iter-key-items.ensures.ordered, subst (λ es. HaveProperParts (members_view es)) whole parts);
      space = omega arith;
    }

pub append_item_lines-items-init : goal.append_item_lines-items-init
append_item_lines-items-init t c =
    let all = c.args.items.now.items in
    let text = with_commas (item_lines c.args.indent c.args.margin (trees_view all)) in
    record {
      underway = goes_on c.args.buf.now.items [] (text ++ []) (begun c.args.buf.now.items text) (sym (append-nil text)) (sym (append-nil c.args.buf.now.items));
      texts = refl;
      proper = λ parts. parts;
      space = omega arith;
    }

pub append_items-returns-in_err-inner-clause-appends : goal.append_items-returns-in_err-inner-clause-appends
append_items-returns-in_err-inner-clause-appends t c =
    let all = c.args.items.now.items in
    let some : length all ≢ 0 = search rules in
    let long = array_long c.args.indent c.args.margin all some in
    record { ok = search rules; holds = search rules; retained = search rules; full = on_err c.from_residual.result (λ texts. omega (arith, long, c.in_err-inner.ensures.full)); capacity = search rules }

pub append_items-returns-in_err-append_line-clause-appends : goal.append_items-returns-in_err-append_line-clause-appends
append_items-returns-in_err-append_line-clause-appends t c =
    let all = c.args.items.now.items in
    let some : length all ≢ 0 = search rules in
    let lines = with_commas (item_lines c.args.indent c.in_ok-inner.inner (trees_view all)) in
    let whole = array_is c.args.indent c.args.margin c.in_ok-inner.inner all some c.in_ok-inner.ensures.ok in
    let first = c.in_ok-extend_from_slice.ensures in
    let second = c.in_ok-append_item_lines.ensures.appends in
    let r = c.from_residual-in_err-append_line.result in
    let third = c.in_err-append_line.ensures.appends in
    let new = c.append_line.new.buf in
    let close = lacks_first r c.append_item_lines.new.buf new (new_line c.args.margin) (93 ∷ []) _ refl c.from_residual-in_err-append_line.ensures.0 third.retained third.capacity third.full in
    let rest = appends_then r c.extend_from_slice-2.new.self c.append_item_lines.new.buf new lines _ _ refl second.ok second.capacity close in
    appends_if _ r c.args.buf.now new _ (on_ok r second.holds) (appends_then r c.args.buf.now c.extend_from_slice-2.new.self new (91 ∷ []) _ _ whole first.items first.capacity rest)

pub append_items-returns-clause-appends : goal.append_items-returns-clause-appends
append_items-returns-clause-appends t c =
    let all = c.args.items.now.items in
    let some : length all ≢ 0 = search rules in
    let lines = with_commas (item_lines c.args.indent c.in_ok-inner.inner (trees_view all)) in
    let whole = array_is c.args.indent c.args.margin c.in_ok-inner.inner all some c.in_ok-inner.ensures.ok in
    let first = c.in_ok-extend_from_slice.ensures in
    let second = c.in_ok-append_item_lines.ensures.appends in
    let r = c.extend_from_slice-3.result in
    let third = c.in_ok-append_line.ensures.appends in
    let last = c.extend_from_slice-3.ensures in
    let new = c.extend_from_slice-3.new.self in
    let end = extended r c.append_line.new.buf new _ (93 ∷ []) last.items last.full last.capacity refl in
    let close = appends_then r c.append_item_lines.new.buf c.append_line.new.buf new (new_line c.args.margin) (93 ∷ []) _ refl third.ok third.capacity end in
    let rest = appends_then r c.extend_from_slice-2.new.self c.append_item_lines.new.buf new lines _ _ refl second.ok second.capacity close in
    appends_if _ r c.args.buf.now new _ (on_ok r second.holds) (appends_then r c.args.buf.now c.extend_from_slice-2.new.self new (91 ∷ []) _ _ whole first.items first.capacity rest)

pub append_members-returns-in_err-inner-clause-appends : goal.append_members-returns-in_err-inner-clause-appends
append_members-returns-in_err-inner-clause-appends t c =
    let all = c.args.members.now.entries in
    let some : length all ≢ 0 = search rules in
    let long = object_long c.args.indent c.args.margin all some in
    record { ok = search rules; holds = search rules; retained = search rules; full = on_err c.from_residual.result (λ texts. omega (arith, long, c.in_err-inner.ensures.full)); capacity = search rules }

pub append_members-returns-in_err-append_line-clause-appends : goal.append_members-returns-in_err-append_line-clause-appends
append_members-returns-in_err-append_line-clause-appends t c =
    let all = c.args.members.now.entries in
    let some : length all ≢ 0 = search rules in
    let lines = with_commas (member_lines c.args.indent c.in_ok-inner.inner (members_view all)) in
    let whole = object_is c.args.indent c.args.margin c.in_ok-inner.inner all some c.in_ok-inner.ensures.ok in
    let first = c.in_ok-extend_from_slice.ensures in
    let second = c.in_ok-append_member_lines.ensures.appends in
    let r = c.from_residual-in_err-append_line.result in
    let third = c.in_err-append_line.ensures.appends in
    let new = c.append_line.new.buf in
    let close = lacks_first r c.append_member_lines.new.buf new (new_line c.args.margin) (125 ∷ []) _ refl c.from_residual-in_err-append_line.ensures.0 third.retained third.capacity third.full in
    let rest = appends_then r c.extend_from_slice-2.new.self c.append_member_lines.new.buf new lines _ _ refl second.ok second.capacity close in
    appends_if _ r c.args.buf.now new _ (on_ok r second.holds) (appends_then r c.args.buf.now c.extend_from_slice-2.new.self new (123 ∷ []) _ _ whole first.items first.capacity rest)

pub append_members-returns-clause-appends : goal.append_members-returns-clause-appends
append_members-returns-clause-appends t c =
    let all = c.args.members.now.entries in
    let some : length all ≢ 0 = search rules in
    let lines = with_commas (member_lines c.args.indent c.in_ok-inner.inner (members_view all)) in
    let whole = object_is c.args.indent c.args.margin c.in_ok-inner.inner all some c.in_ok-inner.ensures.ok in
    let first = c.in_ok-extend_from_slice.ensures in
    let second = c.in_ok-append_member_lines.ensures.appends in
    let r = c.extend_from_slice-3.result in
    let third = c.in_ok-append_line.ensures.appends in
    let last = c.extend_from_slice-3.ensures in
    let new = c.extend_from_slice-3.new.self in
    let end = extended r c.append_line.new.buf new _ (125 ∷ []) last.items last.full last.capacity refl in
    let close = appends_then r c.append_member_lines.new.buf c.append_line.new.buf new (new_line c.args.margin) (125 ∷ []) _ refl third.ok third.capacity end in
    let rest = appends_then r c.extend_from_slice-2.new.self c.append_member_lines.new.buf new lines _ _ refl second.ok second.capacity close in
    appends_if _ r c.args.buf.now new _ (on_ok r second.holds) (appends_then r c.args.buf.now c.extend_from_slice-2.new.self new (123 ∷ []) _ _ whole first.items first.capacity rest)

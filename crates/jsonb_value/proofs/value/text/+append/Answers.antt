use Rattle.std.proofs.Common.{◌≡◌, List, true, false, ◌+◌, [], ◌∷◌, ◌++◌, drop, refl, sym, subst, ap, ◌∙◌, arith, rules, string_bytes}
use Rattle.jsonb_spec.specs.Proper.{HaveProperParts}
use Rattle.jsonb_spec.specs.Text.StringText.{quoted_text}
use Rattle.jsonb_spec.specs.Text.{with_commas, item_texts, member_texts, tree_text, members_have_texts}
use Rattle.jsonb_spec.specs.Tree.{boolean}
use Rattle.jsonb_value.specs.View.{view, trees_view, members_view}
use Rattle.jsonb_core.proofs.Appending.Appended.{begun, goes_on, fits, on_err, retained_on, extended_if, appends_as_if, whole_if}
use Rattle.jsonb_value.proofs.Values.Accessors.{view-Null, view-Bool, view-String, view-Number, view-Binary, view-Interval, view-Array, view-Object}
use Rattle.jsonb_value.proofs.Values.Keys.{KeysAscend-members_view}
use Rattle.jsonb_value.proofs.Values.Members.{Entry}
use Rattle.jsonb_core.proofs.Appending.Pieces.{texts_left, comma_done, comma_fits, key_split, key_done, texts_left_have, first_has_text}
use Rattle.jsonb_value.proofs.Appending.NextParts.{next_item, next_member, next_text, next_member_text, next_proper, next_proper_member}
use Rattle.jsonb_value.proofs.value.text.+append.Goals as goal

pub append-returns-in-Array-clause-appends : goal.append-returns-in-Array-clause-appends
append-returns-in-Array-clause-appends t c = rw (ap view c.in-Array.is ∙ view-Array c.in-Array.items) c.append_items.ensures.appends

pub append-returns-in-Object-clause-appends : goal.append-returns-in-Object-clause-appends
append-returns-in-Object-clause-appends t c = rw (ap view c.in-Object.is ∙ view-Object c.in-Object.members) c.append_members.ensures.appends

pub append_items-items-preserved : goal.append_items-items-preserved
append_items-items-preserved t c =
    let all = c.args.items.now.items in
    let item = c.item-item.result in
    let rest = texts_left false (item_texts (trees_view (drop (c.items.item-index + 1) all))) ++ 93 ∷ [] in
    let next = next_item all c.items.item-index item (search rules) (search rules) in
    let due = comma_done c.items.is_first _ _ _ _ (93 ∷ []) c.append_comma.new.buf.items _ _ next c.items.invariant.underway c.in_ok-append_comma.ensures.appends.ok in
    record {
      underway = goes_on c.append.new.buf.items (tree_text (view item)) rest due refl c.in_ok-append.ensures.appends.ok;
      texts = texts_left_have _ _ _ _ c.items.invariant.texts (next_text all c.items.item-index item (search rules) (search rules)) c.in_ok-append.ensures.appends.holds;
      proper = λ others. c.items.invariant.proper (next_proper all c.items.item-index item (search rules) (search rules) c.in_ok-append.ensures.proper others);
      space = omega arith;
    }

pub append_items-returns-in_err-append-clause-appends : goal.append_items-returns-in_err-append-clause-appends
append_items-returns-in_err-append-clause-appends t c =
    let all = c.args.items.now.items in
    let item = c.item-item.result in
    let rest = texts_left false (item_texts (trees_view (drop (c.items.item-index + 1) all))) ++ 93 ∷ [] in
    let next = next_item all c.items.item-index item (search rules) (search rules) in
    let due = comma_done c.items.is_first _ _ _ _ (93 ∷ []) c.append_comma.new.buf.items _ _ next c.items.invariant.underway c.in_ok-append_comma.ensures.appends.ok in
    let space = fits (tree_text (view item)) rest due refl in
    let first = next_text all c.items.item-index item (search rules) (search rules) in
    record { ok = search rules; holds = search rules; retained = retained_on due c.in_err-append.ensures.appends.retained; full = on_err c.from_residual-in_err-append.result (λ texts. omega (arith, space, c.in_err-append.ensures.appends.full (first_has_text _ _ _ _ c.items.invariant.texts first texts))); capacity = search rules }

pub append_members-members-preserved : goal.append_members-members-preserved
append_members-members-preserved t c =
    let key = string_bytes c.in-Some.key.now in
    let value = tree_text (view c.in-Some.value.now) in
    let rest = texts_left false (member_texts (members_view c.next.new.self)) ++ 125 ∷ [] in
    let next = next_member c.members.key-iterator c.next.new.self (c.in-Some.key.now, c.in-Some.value.now) c.in-Some.ensures.steps in
    let due = comma_done c.members.is_first _ _ _ _ (125 ∷ []) c.append_comma.new.buf.items _ _ next c.members.invariant.underway c.in_ok-append_comma.ensures.appends.ok in
    let due = key_done _ _ _ (quoted_text key) value rest c.append_key.new.buf.items due c.in_ok-append_key.ensures.appends.ok in
    record {
      underway = goes_on c.append.new.buf.items value rest due refl c.in_ok-append.ensures.appends.ok;
      texts = texts_left_have _ _ _ _ c.members.invariant.texts (next_member_text c.members.key-iterator c.next.new.self (c.in-Some.key.now, c.in-Some.value.now) c.in-Some.ensures.steps) c.in_ok-append.ensures.appends.holds;
      proper = λ others. c.members.invariant.proper (next_proper_member c.members.key-iterator c.next.new.self (c.in-Some.key.now, c.in-Some.value.now) c.in-Some.ensures.steps c.in_ok-append_key.ensures.utf8 c.in_ok-append.ensures.proper others);
      space = omega arith;
    }

pub append_members-returns-in_err-append_key-clause-appends : goal.append_members-returns-in_err-append_key-clause-appends
append_members-returns-in_err-append_key-clause-appends t c =
    let key = string_bytes c.in-Some.key.now in
    let value = tree_text (view c.in-Some.value.now) in
    let rest = texts_left false (member_texts (members_view c.next.new.self)) ++ 125 ∷ [] in
    let next = next_member c.members.key-iterator c.next.new.self (c.in-Some.key.now, c.in-Some.value.now) c.in-Some.ensures.steps in
    let due = comma_done c.members.is_first _ _ _ _ (125 ∷ []) c.append_comma.new.buf.items _ _ next c.members.invariant.underway c.in_ok-append_comma.ensures.appends.ok in
    let space = fits (quoted_text key ++ 58 ∷ []) (value ++ rest) due (key_split (quoted_text key) value rest) in
    record { ok = search rules; holds = search rules; retained = retained_on due c.in_err-append_key.ensures.appends.retained; full = on_err c.from_residual-in_err-append_key.result (λ texts. omega (arith, space, c.in_err-append_key.ensures.appends.full)); capacity = search rules }

pub append_members-returns-in_err-append-clause-appends : goal.append_members-returns-in_err-append-clause-appends
append_members-returns-in_err-append-clause-appends t c =
    let key = string_bytes c.in-Some.key.now in
    let value = tree_text (view c.in-Some.value.now) in
    let rest = texts_left false (member_texts (members_view c.next.new.self)) ++ 125 ∷ [] in
    let next = next_member c.members.key-iterator c.next.new.self (c.in-Some.key.now, c.in-Some.value.now) c.in-Some.ensures.steps in
    let due = comma_done c.members.is_first _ _ _ _ (125 ∷ []) c.append_comma.new.buf.items _ _ next c.members.invariant.underway c.in_ok-append_comma.ensures.appends.ok in
    let due = key_done _ _ _ (quoted_text key) value rest c.append_key.new.buf.items due c.in_ok-append_key.ensures.appends.ok in
    let space = fits value rest due refl in
    let first = next_member_text c.members.key-iterator c.next.new.self (c.in-Some.key.now, c.in-Some.value.now) c.in-Some.ensures.steps in
    record { ok = search rules; holds = search rules; retained = retained_on due c.in_err-append.ensures.appends.retained; full = on_err c.from_residual-in_err-append.result (λ texts. omega (arith, space, c.in_err-append.ensures.appends.full (first_has_text _ _ _ _ c.members.invariant.texts first texts))); capacity = search rules }

pub append_members-members-init : goal.append_members-members-init
append_members-members-init t c =
    let all = c.args.members.now.entries in
    let whole : c.into_iter-key-iterator.result ≡ all = c.into_iter-key-iterator.ensures.into_iter_gives ∙ c.iter-key-items.ensures.rest in
    let text = λ (es : List Entry). 123 ∷ with_commas (member_texts (members_view es)) ++ 125 ∷ [] in
    let rest = with_commas (member_texts (members_view c.into_iter-key-iterator.result)) ++ 125 ∷ [] in
    record {
      underway = goes_on c.extend_from_slice.new.self.items (123 ∷ []) rest (begun c.args.buf.now.items (text all)) (ap text (sym whole)) c.in_ok-extend_from_slice.ensures.items;
      texts = ap (λ es. members_have_texts (members_view es)) (sym whole);
      proper = λ parts. (KeysAscend-members_view all c.iter-key-items.ensures.ordered, subst (λ es. HaveProperParts (members_view es)) whole parts);
      space = omega (arith, c.in_ok-extend_from_slice.ensures.capacity);
    }

pub append_members-returns-in_err-append_comma-clause-appends : goal.append_members-returns-in_err-append_comma-clause-appends
append_members-returns-in_err-append_comma-clause-appends t c =
    let next = next_member c.members.key-iterator c.next.new.self (c.in-Some.key.now, c.in-Some.value.now) c.in-Some.ensures.steps in
    let space = comma_fits c.members.is_first _ _ _ _ (125 ∷ []) _ _ next c.members.invariant.underway in
    record { ok = search rules; holds = search rules; retained = search rules; full = on_err c.from_residual-in_err-append_comma.result (λ texts. omega (arith, space, c.in_err-append_comma.ensures.appends.full)); capacity = search rules }

pub append-returns-in-Null-clause-appends : goal.append-returns-in-Null-clause-appends
append-returns-in-Null-clause-appends t c =
    let written = c.extend_from_slice.ensures in
    rw (ap view c.in-Null.is ∙ view-Null) (extended_if _ _ _ _ _ _ refl written.items written.full written.capacity refl)

pub append-returns-in-Bool-true-clause-appends : goal.append-returns-in-Bool-true-clause-appends
append-returns-in-Bool-true-clause-appends t c =
    let test : c.in-Bool-true.field-0 ≡ true = search rules in
    let written = c.extend_from_slice-in-Bool-true.ensures in
    rw (ap view c.in-Bool-true.is ∙ view-Bool c.in-Bool-true.field-0 ∙ ap boolean test) (extended_if _ _ _ _ _ _ refl written.items written.full written.capacity refl)

pub append-returns-in-Bool-false-clause-appends : goal.append-returns-in-Bool-false-clause-appends
append-returns-in-Bool-false-clause-appends t c =
    let test : c.in-Bool-false.field-0 ≡ false = search rules in
    let written = c.extend_from_slice-in-Bool-false.ensures in
    rw (ap view c.in-Bool-false.is ∙ view-Bool c.in-Bool-false.field-0 ∙ ap boolean test) (extended_if _ _ _ _ _ _ refl written.items written.full written.capacity refl)

pub append-returns-in-String-clause-appends : goal.append-returns-in-String-clause-appends
append-returns-in-String-clause-appends t c = rw (ap view c.in-String.is ∙ view-String c.in-String.text) (appends_as_if _ _ _ _ _ _ refl (ap quoted_text c.as_str.ensures.value) c.append_string.ensures.appends)

pub append-returns-in-Number-clause-appends : goal.append-returns-in-Number-clause-appends
append-returns-in-Number-clause-appends t c = rw (ap view c.in-Number.is ∙ view-Number c.in-Number.number) (whole_if _ _ _ _ _ refl c.append_number.ensures.appends)

pub append-returns-in-Binary-clause-appends : goal.append-returns-in-Binary-clause-appends
append-returns-in-Binary-clause-appends t c = rw (ap view c.in-Binary.is ∙ view-Binary c.in-Binary.bytes) (appends_as_if _ _ _ _ _ _ refl refl c.append_quoted_binary.ensures.appends)

pub append-returns-in-Interval-clause-appends : goal.append-returns-in-Interval-clause-appends
append-returns-in-Interval-clause-appends t c = rw (ap view c.in-Interval.is ∙ view-Interval c.in-Interval.interval) (appends_as_if _ _ _ _ _ _ refl refl c.append_quoted_interval.ensures.appends)

use Rattle.std.proofs.Common.{◌≡◌, List, true, false, ◌+◌, [], ◌∷◌, ◌++◌, drop, refl, sym, subst, ap, ◌∙◌, arith, rules, string_bytes}
use Rattle.jsonb_spec.specs.SortKey.Kind as kind
use Rattle.jsonb_spec.specs.Tree.{boolean}
use Rattle.jsonb_spec.specs.SortKey.{text_key, key_of, items_key, members_key}
use Rattle.jsonb_value.specs.View.{view, trees_view, members_view}
use Rattle.jsonb_core.proofs.Appending.Appended.{begun, goes_on, fits, on_err, retained_on, appends_rest, appends_as, extended}
use Rattle.jsonb_value.proofs.Values.Accessors.{view-Null, view-Bool, view-String, view-Number, view-Binary, view-Array, view-Object}
use Rattle.jsonb_value.proofs.SortKeys.Parts.{next_item, next_member}
use Rattle.jsonb_value.proofs.Values.Members.{Entry}
use Rattle.jsonb_value.proofs.value.sort_key.+append.Goals as goal
use Rattle.jsonb_spec.specs.Proper.{HaveProperParts}
use Rattle.jsonb_value.proofs.Values.Keys.{KeysAscend-members_view}
use Rattle.jsonb_value.proofs.Appending.NextParts.{next_proper, next_proper_member}

pub append_items-items-preserved : goal.append_items-items-preserved
append_items-items-preserved t c =
    let all = c.args.items.now.items in
    let item = c.item-item.result in
    let rest = items_key (trees_view (drop (c.items.item-index + 1) all)) in
    record {
      underway = goes_on c.append.new.buf.items (key_of (view item)) rest c.items.invariant.underway (next_item all c.items.item-index item (search rules) (search rules)) c.in_ok-append.ensures.appends.ok;
      proper = λ others. c.items.invariant.proper (next_proper all c.items.item-index item (search rules) (search rules) c.in_ok-append.ensures.proper others);
      space = omega arith;
    }

pub append_items-returns-in_err-append-clause-appends : goal.append_items-returns-in_err-append-clause-appends
append_items-returns-in_err-append-clause-appends t c =
    let all = c.args.items.now.items in
    let item = c.item-item.result in
    let rest = items_key (trees_view (drop (c.items.item-index + 1) all)) in
    let space = fits (key_of (view item)) rest c.items.invariant.underway (next_item all c.items.item-index item (search rules) (search rules)) in
    record { ok = search rules; retained = retained_on c.items.invariant.underway c.in_err-append.ensures.appends.retained; full = on_err c.from_residual-in_err-append.result (omega (arith, space, c.in_err-append.ensures.appends.full)); capacity = search rules }

pub append_members-members-preserved : goal.append_members-members-preserved
append_members-members-preserved t c =
    let key = text_key (string_bytes c.in-Some.key.now) in
    let value = key_of (view c.in-Some.value.now) in
    let rest = members_key (members_view c.next.new.self) in
    let next = next_member c.members.key-iterator c.next.new.self (c.in-Some.key.now, c.in-Some.value.now) c.in-Some.ensures.steps in
    let due = goes_on c.append_key.new.buf.items key (value ++ rest) c.members.invariant.underway next c.in_ok-append_key.ensures.appends.ok in
    record {
      underway = goes_on c.append.new.buf.items value rest due refl c.in_ok-append.ensures.appends.ok;
      proper = λ others. c.members.invariant.proper (next_proper_member c.members.key-iterator c.next.new.self (c.in-Some.key.now, c.in-Some.value.now) c.in-Some.ensures.steps c.in_ok-append_key.ensures.utf8 c.in_ok-append.ensures.proper others);
      space = omega arith;
    }

pub append_members-returns-in_err-append_key-clause-appends : goal.append_members-returns-in_err-append_key-clause-appends
append_members-returns-in_err-append_key-clause-appends t c =
    let key = text_key (string_bytes c.in-Some.key.now) in
    let value = key_of (view c.in-Some.value.now) in
    let rest = members_key (members_view c.next.new.self) in
    let next = next_member c.members.key-iterator c.next.new.self (c.in-Some.key.now, c.in-Some.value.now) c.in-Some.ensures.steps in
    let space = fits key (value ++ rest) c.members.invariant.underway next in
    record { ok = search rules; retained = retained_on c.members.invariant.underway c.in_err-append_key.ensures.appends.retained; full = on_err c.from_residual-in_err-append_key.result (omega (arith, space, c.in_err-append_key.ensures.appends.full)); capacity = search rules }

pub append_members-returns-in_err-append-clause-appends : goal.append_members-returns-in_err-append-clause-appends
append_members-returns-in_err-append-clause-appends t c =
    let key = text_key (string_bytes c.in-Some.key.now) in
    let value = key_of (view c.in-Some.value.now) in
    let rest = members_key (members_view c.next.new.self) in
    let next = next_member c.members.key-iterator c.next.new.self (c.in-Some.key.now, c.in-Some.value.now) c.in-Some.ensures.steps in
    let due = goes_on c.append_key.new.buf.items key (value ++ rest) c.members.invariant.underway next c.in_ok-append_key.ensures.appends.ok in
    let space = fits value rest due refl in
    record { ok = search rules; retained = retained_on due c.in_err-append.ensures.appends.retained; full = on_err c.from_residual-in_err-append.result (omega (arith, space, c.in_err-append.ensures.appends.full)); capacity = search rules }

pub append_members-members-init : goal.append_members-members-init
append_members-members-init t c =
    let all = c.args.members.now.entries in
    let whole : c.into_iter-key-iterator.result ≡ all = c.into_iter-key-iterator.ensures.into_iter_gives ∙ c.iter-key-items.ensures.rest in
    let rest = members_key (members_view c.into_iter-key-iterator.result) in
    record {
      underway = goes_on c.extend_from_slice.new.self.items (209 ∷ []) rest (begun c.args.buf.now.items (209 ∷ members_key (members_view all))) (ap (λ (es : List Entry). 209 ∷ members_key (members_view es)) (sym whole)) c.in_ok-extend_from_slice.ensures.items;
      proper = λ parts. (KeysAscend-members_view all c.iter-key-items.ensures.ordered, subst (λ es. HaveProperParts (members_view es)) whole parts);
      space = omega (arith, c.in_ok-extend_from_slice.ensures.capacity);
    }

pub append_members-returns-clause-appends : goal.append_members-returns-clause-appends
append_members-returns-clause-appends t c =
    let last = c.extend_from_slice-2.ensures in
    let end = ap (λ (es : List Entry). members_key (members_view es)) (sym c.in-None.ensures.steps.0) in
    appends_rest _ c.args.buf.now c.members.buf _ _ _ c.members.invariant.underway c.members.invariant.space (extended c.extend_from_slice-2.result c.members.buf c.extend_from_slice-2.new.self _ _ last.items last.full last.capacity end)

pub append-returns-in-Binary-clause-appends : goal.append-returns-in-Binary-clause-appends
append-returns-in-Binary-clause-appends t c = rw (ap view c.in-Binary.is ∙ view-Binary c.in-Binary.bytes) c.append_text.ensures.appends

pub append-returns-in-Number-clause-appends : goal.append-returns-in-Number-clause-appends
append-returns-in-Number-clause-appends t c = rw (ap view c.in-Number.is ∙ view-Number c.in-Number.number) c.append_number_key.ensures.appends

pub append-returns-in-String-clause-appends : goal.append-returns-in-String-clause-appends
append-returns-in-String-clause-appends t c = rw (ap view c.in-String.is ∙ view-String c.in-String.text) (appends_as _ _ _ _ _ (ap (λ t. kind.string ∷ text_key t) (c.as_bytes.ensures.value ∙ c.deref.ensures.value)) c.append_text-in-String.ensures.appends)

pub append-returns-in-Object-clause-appends : goal.append-returns-in-Object-clause-appends
append-returns-in-Object-clause-appends t c = rw (ap view c.in-Object.is ∙ view-Object c.in-Object.members) c.append_members.ensures.appends

pub append-returns-in-Array-clause-appends : goal.append-returns-in-Array-clause-appends
append-returns-in-Array-clause-appends t c = rw (ap view c.in-Array.is ∙ view-Array c.in-Array.items) c.append_items.ensures.appends

pub append-returns-in-Bool-false-clause-appends : goal.append-returns-in-Bool-false-clause-appends
append-returns-in-Bool-false-clause-appends t c =
    let test : c.in-Bool-false.field-0 ≡ false = search rules in
    let written = c.extend_from_slice-in-Bool-false.ensures in
    rw (ap view c.in-Bool-false.is ∙ view-Bool c.in-Bool-false.field-0 ∙ ap boolean test) (extended _ _ _ _ _ written.items written.full written.capacity refl)

pub append-returns-in-Bool-true-clause-appends : goal.append-returns-in-Bool-true-clause-appends
append-returns-in-Bool-true-clause-appends t c =
    let test : c.in-Bool-true.field-0 ≡ true = search rules in
    let written = c.extend_from_slice.ensures in
    rw (ap view c.in-Bool-true.is ∙ view-Bool c.in-Bool-true.field-0 ∙ ap boolean test) (extended _ _ _ _ _ written.items written.full written.capacity refl)

pub append-returns-in-Null-clause-appends : goal.append-returns-in-Null-clause-appends
append-returns-in-Null-clause-appends t c =
    let written = c.extend_from_slice-in-Null.ensures in
    rw (ap view c.in-Null.is ∙ view-Null) (extended _ _ _ _ _ written.items written.full written.capacity refl)

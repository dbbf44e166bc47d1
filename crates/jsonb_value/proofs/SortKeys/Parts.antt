-- The keys of items and members, of which some are written and some remain.
use Rattle.std.proofs.Common.{◌≡◌, List, ◌∷◌, ◌++◌, ℕ, ◌+◌, ◌<◌, length, get_or, drop, drop-cons, add-one, string_bytes, sym, ap, ◌∙◌}
use Rattle.jsonb_spec.specs.SortKey.{text_key, key_of, items_key, members_key}
use Rattle.jsonb_value.specs.View.{view, trees_view, members_view}
use Rattle.jsonb_value.specs.declared.value.Value.{Value}
use Rattle.jsonb_value.proofs.Values.Members.{Entry}

-- an item's key is first in what is left
pub next_item : (vs : List Value) (i : ℕ) (v : Value) → i < length vs → v ≡ get_or vs i v → items_key (trees_view (drop i vs)) ≡ key_of (view v) ++ items_key (trees_view (drop (i + 1) vs))
next_item vs i v h e =
    ap (λ us. items_key (trees_view us)) (drop-cons vs i v h)
    ∙ (λ j. key_of (view (sym e j)) ++ items_key (trees_view (drop (sym (add-one i) j) vs)))

-- a member's key and value are first in what is left
pub next_member : (es others : List Entry) (e : Entry) → es ≡ e ∷ others
    → members_key (members_view es) ≡ text_key (string_bytes e.0) ++ (key_of (view e.1) ++ members_key (members_view others))
next_member es others e next = ap (λ fs. members_key (members_view fs)) next

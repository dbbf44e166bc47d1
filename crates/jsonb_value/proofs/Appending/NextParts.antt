-- The next item or member of a value whose others remain.
use Rattle.std.proofs.Common.{◌≡◌, ◌&&◌, List, ◌∷◌, ◌++◌, ℕ, ◌+◌, ◌<◌, length, get_or, drop, drop-cons, add-one, string_bytes, sym, subst, ap, ◌∙◌}
use Rattle.std.specs.Str.{IsUtf8}
use Rattle.jsonb_spec.specs.Proper.{IsProper, AreProper, HaveProperParts}
use Rattle.jsonb_spec.specs.Text.StringText.{quoted_text}
use Rattle.jsonb_spec.specs.Text.{item_texts, member_texts, tree_text, has_text, items_have_texts, members_have_texts}
use Rattle.jsonb_value.specs.View.{view, trees_view, members_view}
use Rattle.jsonb_value.specs.declared.value.Value.{Value}
use Rattle.jsonb_value.proofs.Values.Members.{Entry}

-- an item's text is first in what is left
pub next_item : (vs : List Value) (i : ℕ) (v : Value) → i < length vs → v ≡ get_or vs i v → item_texts (trees_view (drop i vs)) ≡ tree_text (view v) ∷ item_texts (trees_view (drop (i + 1) vs))
next_item vs i v h e =
    ap (λ us. item_texts (trees_view us)) (drop-cons vs i v h)
    ∙ (λ j. tree_text (view (sym e j)) ∷ item_texts (trees_view (drop (sym (add-one i) j) vs)))

-- a member's text is first in what is left
pub next_member : (es others : List Entry) (e : Entry) → es ≡ e ∷ others
    → member_texts (members_view es) ≡ (quoted_text (string_bytes e.0) ++ 58 ∷ tree_text (view e.1)) ∷ member_texts (members_view others)
next_member es others e next = ap (λ fs. member_texts (members_view fs)) next

pub next_text : (vs : List Value) (i : ℕ) (v : Value) → i < length vs → v ≡ get_or vs i v → items_have_texts (trees_view (drop i vs)) ≡ (has_text (view v) && items_have_texts (trees_view (drop (i + 1) vs)))
next_text vs i v h e =
    ap (λ us. items_have_texts (trees_view us)) (drop-cons vs i v h)
    ∙ (λ j. has_text (view (sym e j)) && items_have_texts (trees_view (drop (sym (add-one i) j) vs)))

pub next_member_text : (es others : List Entry) (e : Entry) → es ≡ e ∷ others → members_have_texts (members_view es) ≡ (has_text (view e.1) && members_have_texts (members_view others))
next_member_text es others e next = ap (λ fs. members_have_texts (members_view fs)) next

pub next_proper : (vs : List Value) (i : ℕ) (v : Value) → i < length vs → v ≡ get_or vs i v → IsProper (view v) → AreProper (trees_view (drop (i + 1) vs)) → AreProper (trees_view (drop i vs))
next_proper vs i v h e first others =
    subst (λ us. AreProper (trees_view us)) (sym (drop-cons vs i v h ∙ (λ j. sym e j ∷ drop (sym (add-one i) j) vs))) (first, others)

pub next_proper_member : (es others : List Entry) (e : Entry) → es ≡ e ∷ others → IsUtf8 (string_bytes e.0) → IsProper (view e.1) → HaveProperParts (members_view others) → HaveProperParts (members_view es)
next_proper_member es others e next utf8 first more =
    subst (λ fs. HaveProperParts (members_view fs)) (sym next) (utf8, first, more)

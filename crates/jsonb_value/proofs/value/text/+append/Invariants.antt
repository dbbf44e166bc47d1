use Rattle.std.proofs.Common.{◌≡◌, ◌≤◌, [], ◌∷◌, ◌++◌, drop}
use Rattle.std.specs.Vec.{vec_capacity}
use Rattle.jsonb_spec.specs.Keys.{KeysAscend}
use Rattle.jsonb_spec.specs.Proper.{AreProper, HaveProperParts}
use Rattle.jsonb_spec.specs.Text.{with_commas, item_texts, member_texts, items_have_texts, members_have_texts}
use Rattle.jsonb_value.specs.View.{trees_view, members_view}
use Rattle.jsonb_core.proofs.Appending.Appended.{IsUnderway}
use Rattle.jsonb_core.proofs.Appending.Pieces.{texts_left}
use Rattle.jsonb_value.proofs.value.text.+append.Given as goal

-- what is left to write is the rest of the items and the bracket, if those left have texts, all do, and if they are
-- proper, all are
abbrev pub invariant-append_items-items : goal.invariant-append_items-items
invariant-append_items-items l = record {
  underway : IsUnderway l.fn.buf.items l.buf.items (91 ∷ with_commas (item_texts (trees_view l.items.items)) ++ 93 ∷ []) (texts_left l.is_first (item_texts (trees_view (drop l.item-index l.items.items))) ++ 93 ∷ []);
  texts : items_have_texts (trees_view l.items.items) ≡ items_have_texts (trees_view (drop l.item-index l.items.items));
  proper : AreProper (trees_view (drop l.item-index l.items.items)) → AreProper (trees_view l.items.items);
  space : vec_capacity l.fn.buf ≤ vec_capacity l.buf;
}

-- what is left to write is the rest of the members and the brace, if those left have texts, all do, and if they are
-- proper, all are
abbrev pub invariant-append_members-members : goal.invariant-append_members-members
invariant-append_members-members l = record {
  underway : IsUnderway l.fn.buf.items l.buf.items (123 ∷ with_commas (member_texts (members_view l.members.entries)) ++ 125 ∷ []) (texts_left l.is_first (member_texts (members_view l.key-iterator)) ++ 125 ∷ []);
  texts : members_have_texts (members_view l.members.entries) ≡ members_have_texts (members_view l.key-iterator);
  proper : HaveProperParts (members_view l.key-iterator) → KeysAscend (members_view l.members.entries) × HaveProperParts (members_view l.members.entries);
  space : vec_capacity l.fn.buf ≤ vec_capacity l.buf;
}

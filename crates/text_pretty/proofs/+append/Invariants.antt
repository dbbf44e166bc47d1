use Rattle.std.proofs.Common.{◌≡◌, ◌≤◌, [], ◌++◌, drop}
use Rattle.std.specs.Vec.{vec_capacity}
use Rattle.jsonb_spec.specs.Keys.{KeysAscend}
use Rattle.jsonb_spec.specs.Proper.{AreProper, HaveProperParts}
use Rattle.jsonb_spec.specs.Text.{with_commas, items_have_texts, members_have_texts}
use Rattle.jsonb_value.specs.View.{trees_view, members_view}
use Rattle.jsonb_core.proofs.Appending.Appended.{IsUnderway}
use Rattle.jsonb_core.proofs.Appending.Pieces.{texts_left}
use Rattle.jsonb_spec.specs.Indented.{item_lines, member_lines}
use Rattle.text_pretty.proofs.+append.Given as goal

-- what is left to write is the lines of the rest of the items, if those left have texts, all do, and if they are
-- proper, all are
abbrev pub invariant-append_item_lines-items : goal.invariant-append_item_lines-items
invariant-append_item_lines-items l = record {
  underway : IsUnderway l.fn.buf.items l.buf.items (with_commas (item_lines l.indent l.margin (trees_view l.items.items))) (texts_left l.is_first (item_lines l.indent l.margin (trees_view (drop l.item-index l.items.items))) ++ []);
  texts : items_have_texts (trees_view l.items.items) ≡ items_have_texts (trees_view (drop l.item-index l.items.items));
  proper : AreProper (trees_view (drop l.item-index l.items.items)) → AreProper (trees_view l.items.items);
  space : vec_capacity l.fn.buf ≤ vec_capacity l.buf;
}

-- the same of members
abbrev pub invariant-append_member_lines-members : goal.invariant-append_member_lines-members
invariant-append_member_lines-members l = record {
  underway : IsUnderway l.fn.buf.items l.buf.items (with_commas (member_lines l.indent l.margin (members_view l.members.entries))) (texts_left l.is_first (member_lines l.indent l.margin (members_view l.key-iterator)) ++ []);
  texts : members_have_texts (members_view l.members.entries) ≡ members_have_texts (members_view l.key-iterator);
  proper : HaveProperParts (members_view l.key-iterator) → KeysAscend (members_view l.members.entries) × HaveProperParts (members_view l.members.entries);
  space : vec_capacity l.fn.buf ≤ vec_capacity l.buf;
}

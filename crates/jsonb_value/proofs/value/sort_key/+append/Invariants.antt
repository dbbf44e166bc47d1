use Rattle.std.proofs.Common.{◌≤◌, ◌∷◌, drop}
use Rattle.std.specs.Vec.{vec_capacity}
use Rattle.jsonb_spec.specs.SortKey.{items_key, members_key}
use Rattle.jsonb_value.specs.View.{trees_view, members_view}
use Rattle.jsonb_core.proofs.Appending.Appended.{IsUnderway}
use Rattle.jsonb_value.proofs.value.sort_key.+append.Given as goal
use Rattle.jsonb_spec.specs.Proper.{AreProper, HaveProperParts}
use Rattle.jsonb_spec.specs.Keys.{KeysAscend}

-- what is left to write is the key of the items that are left, and if these are proper, all are
abbrev pub invariant-append_items-items : goal.invariant-append_items-items
invariant-append_items-items l = record {
  underway : IsUnderway l.fn.buf.items l.buf.items (210 ∷ items_key (trees_view l.items.items)) (items_key (trees_view (drop l.item-index l.items.items)));
  proper : AreProper (trees_view (drop l.item-index l.items.items)) → AreProper (trees_view l.items.items);
  space : vec_capacity l.fn.buf ≤ vec_capacity l.buf;
}

-- the same of members
abbrev pub invariant-append_members-members : goal.invariant-append_members-members
invariant-append_members-members l = record {
  underway : IsUnderway l.fn.buf.items l.buf.items (209 ∷ members_key (members_view l.members.entries)) (members_key (members_view l.key-iterator));
  proper : HaveProperParts (members_view l.key-iterator) → KeysAscend (members_view l.members.entries) × HaveProperParts (members_view l.members.entries);
  space : vec_capacity l.fn.buf ≤ vec_capacity l.buf;
}

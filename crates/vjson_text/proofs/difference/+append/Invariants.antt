use Rattle.std.proofs.Common.{◌≡◌, ◌++◌, drop, length}
use Rattle.jsonb_spec.specs.Program.Differences.{item_differences, member_differences}
use Rattle.jsonb_value.specs.View.{members_view, trees_view, view}
use Rattle.vjson_text.proofs.difference.+append.Given as goal

-- what is left to append is the lines of the rest of the items
abbrev pub invariant-append_items-items : goal.invariant-append_items-items
invariant-append_items-items l = record {
  index : l.index ≡ l.item-index;
  len : l.len ≡ length l.fn.pointer.items;
  pointer : l.pointer.items ≡ l.fn.pointer.items;
  lines : l.out.items ++ item_differences l.fn.pointer.items l.index (view l.other) (trees_view (drop l.item-index l.items.items))
      ≡ l.fn.out.items ++ item_differences l.fn.pointer.items 0 (view l.other) (trees_view l.items.items);
}

-- the same of members
abbrev pub invariant-append_members-members : goal.invariant-append_members-members
invariant-append_members-members l = record {
  len : l.len ≡ length l.fn.pointer.items;
  pointer : l.pointer.items ≡ l.fn.pointer.items;
  lines : l.out.items ++ member_differences l.fn.pointer.items (view l.other) (members_view l.name-iterator)
      ≡ l.fn.out.items ++ member_differences l.fn.pointer.items (view l.other) (members_view l.members.entries);
}

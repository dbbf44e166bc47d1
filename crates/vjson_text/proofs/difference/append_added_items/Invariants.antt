use Rattle.std.proofs.Common.{◌≡◌, ◌++◌, drop, length}
use Rattle.jsonb_spec.specs.Program.Differences.{added_items}
use Rattle.jsonb_value.specs.View.{trees_view, view}
use Rattle.vjson_text.proofs.difference.append_added_items.Given as goal

-- what is left to append is the lines of the rest of the items
abbrev pub invariant-items : goal.invariant-items
invariant-items l = record {
  index : l.index ≡ l.item-index;
  len : l.len ≡ length l.fn.pointer.items;
  pointer : l.pointer.items ≡ l.fn.pointer.items;
  lines : l.out.items ++ added_items l.fn.pointer.items l.index (view l.one) (trees_view (drop l.item-index l.others.items))
      ≡ l.fn.out.items ++ added_items l.fn.pointer.items 0 (view l.one) (trees_view l.others.items);
}

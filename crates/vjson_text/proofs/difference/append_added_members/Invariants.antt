use Rattle.std.proofs.Common.{◌≡◌, ◌++◌, length}
use Rattle.jsonb_spec.specs.Program.Differences.{added_members}
use Rattle.jsonb_value.specs.View.{members_view, view}
use Rattle.vjson_text.proofs.difference.append_added_members.Given as goal

-- what is left to append is the lines of the rest of the members
abbrev pub invariant-members : goal.invariant-members
invariant-members l = record {
  len : l.len ≡ length l.fn.pointer.items;
  pointer : l.pointer.items ≡ l.fn.pointer.items;
  lines : l.out.items ++ added_members l.fn.pointer.items (view l.one) (members_view l.name-iterator)
      ≡ l.fn.out.items ++ added_members l.fn.pointer.items (view l.one) (members_view l.others.entries);
}

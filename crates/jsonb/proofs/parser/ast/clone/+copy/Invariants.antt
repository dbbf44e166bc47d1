use Rattle.std.proofs.Common.{◌≡◌, take, map}
use Rattle.jsonb.specs.Source.{source_view, source_members_view}
use Rattle.jsonb.proofs.parser.ast.clone.+copy.Given as goal

abbrev pub invariant-copy_items-items : goal.invariant-copy_items-items
invariant-copy_items-items l = map source_view l.copies.items ≡ map source_view (take l.item-index l.item-items)

abbrev pub invariant-copy_members-members : goal.invariant-copy_members-members
invariant-copy_members-members l = source_members_view l.copies.items ≡ source_members_view (take l.member-index l.member-items)

use Rattle.std.proofs.Common.{◌≡◌, ◌++◌, List, map}
use Rattle.std.specs.Vec.Iter.{into_iter_items}
use Rattle.jsonb_spec.specs.Tree.{put_all}
use Rattle.jsonb_value.specs.View.{view, members_view}
use Rattle.jsonb.specs.AstView.{Written, ast_view, written_pairs, written_members}
use Rattle.jsonb.proofs.parser.ast.into_value.+build.Given as goal

-- what is left completes the values to the whole
abbrev pub invariant-build_items-items : goal.invariant-build_items-items
invariant-build_items-items l = map view l.values.items ++ map ast_view (into_iter_items l.item-iterator) ≡ map ast_view l.fn.items.items

-- the same of members. That what is left ends the whole shows that it nests no deeper
abbrev pub invariant-build_members-members : goal.invariant-build_members-members
invariant-build_members-members l =
    ((taken : List Written) × (l.fn.members.items ≡ taken ++ into_iter_items l.key-iterator))
    × (put_all (written_pairs (into_iter_items l.key-iterator)) (members_view l.object.entries) ≡ written_members l.fn.members.items)

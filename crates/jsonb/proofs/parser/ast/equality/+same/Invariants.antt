use Rattle.std.proofs.Common.{◌≡◌, drop}
use Rattle.jsonb.specs.Source.{sources_view, source_members_view}
use Rattle.jsonb_spec.specs.Source.Equality.{sources_eq, source_members_eq}
use Rattle.jsonb.proofs.parser.ast.equality.+same.Given as goal

-- what is left decides
abbrev pub invariant-same_items-items : goal.invariant-same_items-items
invariant-same_items-items l = sources_eq (sources_view l.left.items) (sources_view l.right.items) ≡ sources_eq (sources_view (drop l.i l.left.items)) (sources_view (drop l.i l.right.items))

abbrev pub invariant-same_members-members : goal.invariant-same_members-members
invariant-same_members-members l =
    source_members_eq (source_members_view l.left.items) (source_members_view l.right.items) ≡ source_members_eq (source_members_view (drop l.i l.left.items)) (source_members_view (drop l.i l.right.items))

use Rattle.std.proofs.Common.{◌≡◌, ◌≤◌, ◌++◌, length, take, map, vec_len, vec_capacity}
use Rattle.jsonb_spec.specs.Tree.{put_all}
use Rattle.jsonb_value.specs.View.{view, members_view, pairs_view}
use Rattle.jsonb_value.proofs.value.clone.+copy.Given as goal

abbrev pub invariant-copy_items-items : goal.invariant-copy_items-items
invariant-copy_items-items l = (map view l.copies.items ≡ map view (take l.item-index l.item-items))
    × (vec_len l.copies ≡ l.item-index) × (length l.item-items ≤ vec_capacity l.copies)

-- what is left completes the copies to the whole
abbrev pub invariant-insert_copies-members : goal.invariant-insert_copies-members
invariant-insert_copies-members l = put_all (pairs_view l.key-iterator) (members_view l.copies.entries) ≡ members_view l.members.entries

-- what is left completes the pairs to the whole
abbrev pub invariant-copy_pairs-pairs : goal.invariant-copy_pairs-pairs
invariant-copy_pairs-pairs l = pairs_view l.pairs.items ++ pairs_view l.key-iterator ≡ pairs_view l.members.entries

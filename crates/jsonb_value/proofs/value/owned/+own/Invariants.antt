use Rattle.std.proofs.Common.{◌≡◌, ◌++◌, take, drop, map}
use Rattle.jsonb_spec.specs.Owned.{owned_tree, items_hold_binary, members_hold_binary}
use Rattle.jsonb_value.specs.View.{view, trees_view, members_view, pairs_view}
use Rattle.jsonb_value.proofs.Values.OwnedCopies.{owned_pairs}
use Rattle.jsonb_value.proofs.value.owned.+own.Given as goal

-- the copies own what was passed, and binary data is in what is left where it is in the whole
abbrev pub invariant-own_items-items : goal.invariant-own_items-items
invariant-own_items-items l =
    (map view l.copies.items ≡ map (λ v. owned_tree (view v)) (take l.item-index l.item-items))
    × (items_hold_binary (trees_view l.items.items) ≡ items_hold_binary (trees_view (drop l.item-index l.items.items)))

-- what is left completes the pairs to the whole, and binary data is in it where it is in the whole
abbrev pub invariant-own_members-members : goal.invariant-own_members-members
invariant-own_members-members l =
    (pairs_view l.pairs.items ++ owned_pairs l.key-iterator ≡ owned_pairs l.members.entries)
    × (members_hold_binary (members_view l.members.entries) ≡ members_hold_binary (members_view l.key-iterator))

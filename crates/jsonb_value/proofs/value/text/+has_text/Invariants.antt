use Rattle.std.proofs.Common.{◌≡◌, drop}
use Rattle.jsonb_spec.specs.Text.{items_have_texts, members_have_texts}
use Rattle.jsonb_value.specs.View.{trees_view, members_view}
use Rattle.jsonb_value.proofs.value.text.+has_text.Given as goal

-- what is left has texts where the whole does
abbrev pub invariant-items_have_texts-items : goal.invariant-items_have_texts-items
invariant-items_have_texts-items l = items_have_texts (trees_view l.items.items) ≡ items_have_texts (trees_view (drop l.item-index l.items.items))

abbrev pub invariant-members_have_texts-members : goal.invariant-members_have_texts-members
invariant-members_have_texts-members l = members_have_texts (members_view l.members.entries) ≡ members_have_texts (members_view l.value-iterator)

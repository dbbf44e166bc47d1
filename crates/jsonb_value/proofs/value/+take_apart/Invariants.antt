use Rattle.std.proofs.Common.{◌≡◌, ◌++◌, List, length}
use Rattle.std.specs.Prelude.{String}
use Rattle.std.specs.declared.alloc.Global.{Global}
use Rattle.jsonb_value.specs.declared.value.Value.{Value}
use Rattle.jsonb_value.proofs.value.+take_apart.Given as goal

-- what is left begins the whole, so it nests no deeper
abbrev pub invariant-dismantle::take_items_apart-items : goal.invariant-dismantle::take_items_apart-items
invariant-dismantle::take_items_apart-items l = goal.no_deeper-dismantle::take_items_apart-items l

abbrev pub decreases-dismantle::take_items_apart-items : goal.decreases-dismantle::take_items_apart-items
decreases-dismantle::take_items_apart-items l = goal.left-dismantle::take_items_apart-items l

-- the same of members
abbrev pub invariant-dismantle::take_members_apart-members : goal.invariant-dismantle::take_members_apart-members
invariant-dismantle::take_members_apart-members l = (taken : List (String Global × Value)) × (l.fn.members.entries ≡ l.members.entries ++ taken)

abbrev pub decreases-dismantle::take_members_apart-members : goal.decreases-dismantle::take_members_apart-members
decreases-dismantle::take_members_apart-members l = length l.members.entries

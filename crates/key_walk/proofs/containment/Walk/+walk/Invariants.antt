use Rattle.std.proofs.Common.{◌+◌, ◌*◌, ◌≤◌, length}
use Rattle.key_walk.specs.SideBySide.{SameKeys}
use Rattle.key_walk.proofs.Turns.{HoldsMembers, HoldsItems, LooksForItem}
use Rattle.key_walk.proofs.containment.Walk.+walk.Given as goal

abbrev pub decreases-has_parts : goal.decreases-has_parts
decreases-has_parts l = 5 * l.self.now.depth

abbrev pub decreases-has_open : goal.decreases-has_open
decreases-has_open l = 5 * l.self.now.depth + 4

abbrev pub decreases-has_value : goal.decreases-has_value
decreases-has_value l = 5 * l.self.now.depth + 1

abbrev pub decreases-has_members : goal.decreases-has_members
decreases-has_members l = 5 * l.self.now.depth + 2

abbrev pub decreases-has_item : goal.decreases-has_item
decreases-has_item l = 5 * l.self.now.depth + 2

abbrev pub decreases-has_items : goal.decreases-has_items
decreases-has_items l = 5 * l.self.now.depth + 3

abbrev pub invariant-has_members-members : goal.invariant-has_members-members
invariant-has_members-members l = record {
  held : HoldsMembers l.fn.self l.self;
  keys : SameKeys l.fn.self l.self;
  within : length l.self.theirs.now ≤ length l.fn.self.theirs.now;
}

abbrev pub decreases-has_members-members : goal.decreases-has_members-members
decreases-has_members-members l = length l.self.theirs.now

abbrev pub invariant-has_items-others : goal.invariant-has_items-others
invariant-has_items-others l = record {
  held : HoldsItems l.fn.self l.self;
  keys : SameKeys l.fn.self l.self;
  within : length l.self.theirs.now ≤ length l.fn.self.theirs.now;
}

abbrev pub decreases-has_items-others : goal.decreases-has_items-others
decreases-has_items-others l = length l.self.theirs.now

abbrev pub invariant-has_item-items : goal.invariant-has_item-items
invariant-has_item-items l = record {
  looks : LooksForItem l.fn.self l.self l.items l.item;
  keys : SameKeys l.fn.self l.self;
  within : length l.self.theirs.now ≤ l.wanted;
}

abbrev pub decreases-has_item-items : goal.decreases-has_item-items
decreases-has_item-items l = l.item

use Rattle.std.proofs.Common.{◌≡◌, length}
use Rattle.key_walk.specs.SideBySide.{SameKeys}
use Rattle.key_walk.proofs.Beside.{PassesMembers}
use Rattle.key_walk.proofs.containment.Walk.find_member.Given as goal

abbrev pub invariant-members : goal.invariant-members
invariant-members l = record {
  passes : PassesMembers l.fn.self l.self l.name;
  keys : SameKeys l.fn.self l.self;
  theirs : l.self.theirs.now ≡ l.fn.self.theirs.now;
}

abbrev pub decreases-members : goal.decreases-members
decreases-members l = length l.self.ours.now

use Rattle.std.proofs.Common.{◌≡◌, ℕ, length}
use Rattle.jsonb_spec.specs.SortKey.Readable.{IsReadableAt}
use Rattle.key_walk.specs.SideBySide.{SameKeys}
use Rattle.key_walk.proofs.Beside.{PassesItems}
use Rattle.jsonb_spec.specs.SortKey.Open.{IsScalar}
use Rattle.jsonb_spec.specs.Tree.{Tree}
use Rattle.jsonb_spec.specs.SortKey.{key_of}
use Rattle.key_walk.proofs.containment.Walk.has_scalar_item.Given as goal

abbrev pub invariant-items : goal.invariant-items
invariant-items l = record {
  passes : (u : Tree) → IsScalar u → (levels : ℕ) → IsReadableAt levels u → l.wanted ≡ key_of u → PassesItems l.fn.self l.self u;
  keys : SameKeys l.fn.self l.self;
  theirs : l.self.theirs.now ≡ l.fn.self.theirs.now;
}

abbrev pub decreases-items : goal.decreases-items
decreases-items l = length l.self.ours.now

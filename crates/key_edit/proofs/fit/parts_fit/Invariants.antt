use Rattle.std.proofs.Common.{◌≡◌, ◌++◌, List, ℕ, length}
use Rattle.jsonb_spec.specs.SortKey.Open.{Open, is_object, open_key, IsOpen}
use Rattle.key_walk.proofs.Stepping.{Walking}
use Rattle.key_edit.proofs.Depths.{FitsLeft}
use Rattle.key_edit.proofs.fit.parts_fit.Given as goal

abbrev pub invariant-steps : goal.invariant-steps
invariant-steps l = record {
  walks : (o : Open) → is_object o ≡ l.object → IsOpen o 511 → (more : List ℕ) → l.bytes ≡ open_key o ++ more → Walking (FitsLeft o l.inner) more l.steps;
}

abbrev pub decreases-steps : goal.decreases-steps
decreases-steps l = length l.steps.rest.now

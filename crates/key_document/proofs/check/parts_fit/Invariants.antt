use Rattle.std.proofs.Common.{◌≡◌, [], length}
use Rattle.jsonb_spec.specs.SortKey.Open.{Open, is_object, open_key, IsOpen}
use Rattle.key_walk.proofs.Stepping.{Walking}
use Rattle.key_document.specs.Check.{IsCounted, most_open}
use Rattle.key_document.proofs.Fitting.{Fitting}
use Rattle.key_document.proofs.check.parts_fit.Given as goal

abbrev pub invariant-steps : goal.invariant-steps
invariant-steps l = record {
  fits : (o : Open) → is_object o ≡ l.object → IsOpen o 511 → l.bytes ≡ open_key o → IsCounted l.begun
      → Walking (Fitting l.begun (most_open o) l.due (length l.steps.rest.now)) [] l.steps;
}

abbrev pub decreases-steps : goal.decreases-steps
decreases-steps l = length l.steps.rest.now

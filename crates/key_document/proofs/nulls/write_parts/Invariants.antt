use Rattle.std.proofs.Common.{◌≡◌, [], length}
use Rattle.jsonb_spec.specs.SortKey.Open.{Open, is_object, open_key, opening_byte, IsOpen}
use Rattle.jsonb_spec.specs.SortKey.Parts.{opened_tree}
use Rattle.key_walk.proofs.Stepping.{Walking}
use Rattle.jsonb_spec.specs.Document.Counts.{counts_open}
use Rattle.jsonb_spec.specs.SortKey.Text.{Preserves}
use Rattle.jsonb_spec.specs.Edit.LeftOut.{without_nulls}
use Rattle.key_document.specs.Retaining.{IsBegun}
use Rattle.key_document.proofs.Stripped.{StripsLeft}
use Rattle.key_document.proofs.nulls.write_parts.Given as goal

abbrev pub invariant-steps : goal.invariant-steps
invariant-steps l = record {
  left : (o : Open) → is_object o ≡ l.object → IsOpen o 511 → l.bytes ≡ open_key o → IsBegun (opening_byte l.object) l.begun l.bytes (counts_open o)
      → Walking (StripsLeft l.begun.output (without_nulls l.in_arrays (opened_tree o)) l.in_arrays l.retaining l.steps.rest.now l.fn.out.items l.out.items) [] l.steps;
  preserves : Preserves l.fn.out l.out;
}

abbrev pub decreases-steps : goal.decreases-steps
decreases-steps l = length l.steps.rest.now

use Rattle.std.proofs.Common.{length}
use Rattle.jsonb_spec.specs.SortKey.Text.{Preserves}
use Rattle.key_document.proofs.FromText.{WritesParts}
use Rattle.key_document.proofs.from_text.append_key.Given as goal

abbrev pub invariant-parts : goal.invariant-parts
invariant-parts l = record {
  writes : WritesParts l.text l.rest l.zeros l.fn.out.items l.out.items;
  preserves : Preserves l.fn.out l.out;
}

abbrev pub decreases-parts : goal.decreases-parts
decreases-parts l = length l.rest

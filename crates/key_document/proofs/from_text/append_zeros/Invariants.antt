use Rattle.std.proofs.Common.{length}
use Rattle.jsonb_spec.specs.SortKey.Text.{Preserves}
use Rattle.key_document.proofs.ZerosOfText.{WritesZeros}
use Rattle.key_document.proofs.from_text.append_zeros.Given as goal

abbrev pub invariant-parts : goal.invariant-parts
invariant-parts l = record {
  writes : WritesZeros l.text l.fn.at l.fn.plain l.fn.out.items l.rest l.at l.plain l.out.items;
  preserves : Preserves l.fn.out l.out;
}

abbrev pub decreases-parts : goal.decreases-parts
decreases-parts l = length l.rest

use Rattle.std.proofs.Common.{◌≡◌, ℕ, List, false, length}
use Rattle.jsonb_spec.specs.SortKey.{text_key}
use Rattle.jsonb_spec.specs.Tree.{Members}
use Rattle.key_document.specs.Gathered.{AreGathered, NamesAhead}
use Rattle.key_document.proofs.names.is_among.Given as goal

abbrev pub invariant-names : goal.invariant-names
invariant-names l = record {
  ahead : (bytes : List ℕ) → l.text ≡ text_key bytes → (ns : Members) → AreGathered ns l.set l.names → NamesAhead false bytes ns l.rest;
}

abbrev pub decreases-names : goal.decreases-names
decreases-names l = length l.rest

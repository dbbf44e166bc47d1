use Rattle.std.proofs.Common.{◌≡◌, length}
use Rattle.jsonb_spec.specs.SortKey.{members_key}
use Rattle.jsonb_spec.specs.SortKey.Checked.{HaveReadable}
use Rattle.jsonb_spec.specs.Tree.{Members}
use Rattle.key_document.specs.Gathered.{AreGathered}
use Rattle.key_document.proofs.names.gather.Given as goal

abbrev pub invariant-names : goal.invariant-names
invariant-names l = record {
  gathered : (ns : Members) → HaveReadable ns → l.names ≡ members_key ns → AreGathered ns l.set l.rest;
}

abbrev pub decreases-names : goal.decreases-names
decreases-names l = length l.rest

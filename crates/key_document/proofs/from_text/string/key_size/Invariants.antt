use Rattle.std.proofs.Common.{◌≤◌, ◌+◌, ◌*◌, length}
use Rattle.key_document.proofs.Items.{CountsOn}
use Rattle.key_document.proofs.from_text.string.key_size.Given as goal

abbrev pub invariant-items : goal.invariant-items
invariant-items l = record {
  counts : CountsOn l.bytes l.rest l.size;
  size_within : l.size + 2 * length l.rest ≤ 2 * length l.bytes;
  within : length l.rest ≤ length l.bytes;
}

abbrev pub decreases-items : goal.decreases-items
decreases-items l = length l.rest

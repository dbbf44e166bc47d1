use Rattle.std.proofs.Common.{length}
use Rattle.jsonb_spec.specs.SortKey.Text.{Preserves}
use Rattle.key_zeros.proofs.Restoring.{Restores}
use Rattle.key_zeros.proofs.restore.append_text.Given as goal

abbrev pub invariant-entries : goal.invariant-entries
invariant-entries l = record { restores : Restores l.shortest l.zeros l.text l.left l.fn.buf.items l.buf.items; preserves : Preserves l.fn.buf l.buf }

abbrev pub decreases-entries : goal.decreases-entries
decreases-entries l = length l.left

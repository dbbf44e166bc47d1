use Rattle.std.proofs.Common.{◌<◌, ◌^◌}
use Rattle.jsonb_spec.specs.SortKey.Text.{Preserves}
use Rattle.key_zeros.proofs.Sevens.{SevensLeft}
use Rattle.key_zeros.proofs.entry.append_sevens.Given as goal

abbrev pub invariant-sevens : goal.invariant-sevens
invariant-sevens l = record { sevens : l.n < 2 ^ 63 → SevensLeft l.n l.left l.fn.buf.items l.buf.items; preserves : Preserves l.fn.buf l.buf }

abbrev pub decreases-sevens : goal.decreases-sevens
decreases-sevens l = l.left

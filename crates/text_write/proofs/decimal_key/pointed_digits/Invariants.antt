use Rattle.std.proofs.Common.{length, ◌-◌}
use Rattle.text_write.proofs.DecimalKeys.{Collected}
use Rattle.text_write.proofs.decimal_key.pointed_digits.Given as goal

abbrev pub invariant-bytes : goal.invariant-bytes
invariant-bytes l = Collected l.bytes l.index l.count l.scale l.row

abbrev pub decreases-bytes : goal.decreases-bytes
decreases-bytes l = length l.bytes - l.index

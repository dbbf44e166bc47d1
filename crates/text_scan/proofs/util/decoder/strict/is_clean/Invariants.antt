use Rattle.std.proofs.Common.{◌-◌, ◌≤◌, length}
use Rattle.text_scan.specs.StrictString.{AreClean}
use Rattle.text_scan.proofs.util.decoder.strict.is_clean.Given as goal

abbrev pub invariant-rows : goal.invariant-rows
invariant-rows l = (l.at ≤ length l.bytes) × AreClean l.bytes l.at

abbrev pub decreases-rows : goal.decreases-rows
decreases-rows l = length l.bytes - l.at

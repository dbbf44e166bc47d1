use Rattle.std.proofs.Common.{length}
use Rattle.text_scan.proofs.Strings.Strict.{LeadsTo}
use Rattle.text_scan.proofs.util.decoder.strict.check_items.Given as goal

abbrev pub invariant-items : goal.invariant-items
invariant-items l = LeadsTo l.body l.rest

abbrev pub decreases-items : goal.decreases-items
decreases-items l = length l.rest

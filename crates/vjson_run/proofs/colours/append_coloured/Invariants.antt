use Rattle.std.proofs.Common.{length}
use Rattle.vjson_run.proofs.Coloured.{ShowsUpTo}
use Rattle.vjson_run.proofs.colours.append_coloured.Given as goal

abbrev pub invariant-pieces : goal.invariant-pieces
invariant-pieces l = ShowsUpTo l.fn.bytes l.rest l.fn.out.items l.out.items

abbrev pub decreases-pieces : goal.decreases-pieces
decreases-pieces l = length l.rest

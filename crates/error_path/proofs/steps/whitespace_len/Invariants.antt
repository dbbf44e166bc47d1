use Rattle.std.proofs.Common.{length}
use Rattle.error_path.proofs.steps.whitespace_len.Given as goal

abbrev pub decreases-pieces : goal.decreases-pieces
decreases-pieces l = length l.rest

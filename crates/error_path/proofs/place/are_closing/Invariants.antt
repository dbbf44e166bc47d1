use Rattle.std.proofs.Common.{length}
use Rattle.std.specs.List.{AllByRecursion}
use Rattle.jsonb_spec.specs.Path.ErrorPath.{IsClosing}
use Rattle.error_path.proofs.place.are_closing.Given as goal

abbrev pub invariant-bytes : goal.invariant-bytes
invariant-bytes l = AllByRecursion IsClosing l.rest → AllByRecursion IsClosing l.bytes

abbrev pub decreases-bytes : goal.decreases-bytes
decreases-bytes l = length l.rest

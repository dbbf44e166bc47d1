use Rattle.std.proofs.Common.{length}
use Rattle.jsonb_path.proofs.PlainKeys.{AsciiSoFar}
use Rattle.jsonb_path.proofs.keys.ascii_len.Given as goal

abbrev pub invariant-bytes : goal.invariant-bytes
invariant-bytes l = AsciiSoFar l.text l.rest l.len

abbrev pub decreases-bytes : goal.decreases-bytes
decreases-bytes l = length l.rest

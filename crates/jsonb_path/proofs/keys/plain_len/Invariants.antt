use Rattle.std.proofs.Common.{length}
use Rattle.jsonb_path.proofs.PlainKeys.{PlainSoFar}
use Rattle.jsonb_path.proofs.keys.plain_len.Given as goal

abbrev pub invariant-bytes : goal.invariant-bytes
invariant-bytes l = PlainSoFar l.text l.rest l.len

abbrev pub decreases-bytes : goal.decreases-bytes
decreases-bytes l = length l.rest

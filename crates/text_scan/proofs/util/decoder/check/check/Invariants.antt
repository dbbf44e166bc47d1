use Rattle.std.proofs.Common.{length}
use Rattle.text_scan.specs.Answer.{mode_of}
use Rattle.jsonb_spec.specs.Parsing.Decoding.{IsDecodedUpTo}
use Rattle.text_scan.proofs.util.decoder.check.check.Given as goal

abbrev pub invariant-escapes : goal.invariant-escapes
invariant-escapes l = IsDecodedUpTo (mode_of l.mode) l.bytes l.rest

abbrev pub decreases-escapes : goal.decreases-escapes
decreases-escapes l = length l.rest

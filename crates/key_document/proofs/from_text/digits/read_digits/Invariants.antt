use Rattle.std.proofs.Common.{◌≡◌, ◌≤◌, ◌+◌, false, length}
use Rattle.key_document.specs.FromText.{magnitude_from, scale_from}
use Rattle.jsonb_spec.specs.Document.Scan.{ending_of}
use Rattle.key_document.proofs.from_text.digits.read_digits.Given as goal

abbrev pub invariant-bytes : goal.invariant-bytes
invariant-bytes l = record {
  magnitude_left : magnitude_from 0 l.bytes ≡ magnitude_from l.magnitude l.rest;
  scale_left : scale_from false 0 l.bytes ≡ scale_from l.pointed l.scale l.rest;
  zeros_left : ending_of false 0 l.bytes ≡ ending_of l.pointed l.zeros l.rest;
  scale_within : l.scale + length l.rest ≤ length l.bytes;
  zeros_within : l.zeros + length l.rest ≤ length l.bytes;
}

abbrev pub decreases-bytes : goal.decreases-bytes
decreases-bytes l = length l.rest

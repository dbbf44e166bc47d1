use Rattle.std.proofs.Common.{◌≡◌, ◌-◌, ◌≤◌, drop, length}
use Rattle.jsonb_spec.specs.Parsing.Whitespace.{block_length, longer_by}
use Rattle.text_scan.proofs.parser.whitespace.block_len.Given as goal

abbrev pub invariant-vectors : goal.invariant-vectors
invariant-vectors l = (block_length l.bytes ≡ longer_by l.at (block_length (drop l.at l.bytes))) × (l.at ≤ length l.bytes)

abbrev pub decreases-vectors : goal.decreases-vectors
decreases-vectors l = length l.bytes - l.at

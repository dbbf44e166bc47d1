use Rattle.std.proofs.Common.{◌≡◌, ◌-◌, ◌≤◌, drop, length}
use Rattle.jsonb_spec.specs.Parsing.Whitespace.{block_length, longer_by}
use Rattle.text_scan.proofs.parser.whitespace.short_block_len.Given as goal

abbrev pub invariant-bytes : goal.invariant-bytes
invariant-bytes l = (block_length l.bytes ≡ longer_by l.at (block_length (drop l.at l.bytes))) × (l.at ≤ length l.bytes)

abbrev pub decreases-bytes : goal.decreases-bytes
decreases-bytes l = length l.bytes - l.at

use Rattle.std.proofs.Common.{◌≢◌, ℕ, ◌-◌, ◌≤◌, ◌<◌, length, get_or}
use Rattle.text_scan.proofs.parser.string.short_mark.Given as goal

-- none of those before is a mark
abbrev pub invariant-bytes : goal.invariant-bytes
invariant-bytes l = record {
  from : l.at ≤ l.stop;
  within : l.stop ≤ length l.bytes;
  clear : (k : ℕ) → l.at ≤ k → k < l.stop → (get_or l.bytes k 0 ≢ l.quote) × (get_or l.bytes k 0 ≢ 92);
}

abbrev pub decreases-bytes : goal.decreases-bytes
decreases-bytes l = length l.bytes - l.stop

use Rattle.std.proofs.Common.{◌≢◌, ℕ, ◌<◌, ◌≤◌, get_or}
use Rattle.text_scan.proofs.util.decoder.strict.is_clean_few.Given as goal

-- no control character is among those so far, and no opening brace
abbrev pub invariant-bytes : goal.invariant-bytes
invariant-bytes l = (k : ℕ) → k < l.byte-index → (32 ≤ get_or l.bytes k 0) × (get_or l.bytes k 0 ≢ 123)

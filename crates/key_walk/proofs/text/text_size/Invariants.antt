use Rattle.std.proofs.Common.{◌≡◌, ◌≤◌, ◌+◌, ℕ, List, length}
use Rattle.key_value.proofs.Texts.{ReadsText}
use Rattle.key_walk.proofs.text.text_size.Given as goal

abbrev pub invariant-bytes : goal.invariant-bytes
invariant-bytes l = record { reads : (read : List ℕ) × (length read ≡ l.size) × ReadsText l.key read l.rest; within : l.size + length l.rest ≤ length l.key }

abbrev pub decreases-bytes : goal.decreases-bytes
decreases-bytes l = length l.rest

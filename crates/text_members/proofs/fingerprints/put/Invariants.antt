use Rattle.std.proofs.Common.{◌≡◌, ◌≢◌, ◌+◌, ◌≤◌, ◌<◌, ℕ, get_or}
use Rattle.text_members.proofs.fingerprints.put.Given as goal

-- no slot before is free, and none has the tag
abbrev pub invariant-slots : goal.invariant-slots
invariant-slots l = (l.row ≡ l.fn.row) × ((l.home ≤ l.slot) × ((k : ℕ) → l.home + k < l.slot → (get_or l.row (l.home + k) 0 ≢ 0) × (get_or l.row (l.home + k) 0 ≢ l.tag)))

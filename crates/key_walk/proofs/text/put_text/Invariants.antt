use Rattle.std.proofs.Common.{◌≡◌, ◌≤◌, ◌++◌, ℕ, List, drop, length}
use Rattle.key_value.proofs.Texts.{ReadsText}
use Rattle.key_walk.proofs.text.put_text.Given as goal

abbrev pub invariant-bytes : goal.invariant-bytes
invariant-bytes l = record { read : List ℕ; long : length read ≡ l.at; within : l.at ≤ length l.fn.out; reads : ReadsText l.key read l.rest; put : l.out ≡ read ++ drop l.at l.fn.out }

abbrev pub decreases-bytes : goal.decreases-bytes
decreases-bytes l = length l.rest

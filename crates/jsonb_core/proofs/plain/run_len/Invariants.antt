use Rattle.std.proofs.Common.{◌-◌, ◌≤◌, length, take}
use Rattle.jsonb_spec.specs.Text.StringText.{ArePlain}
use Rattle.jsonb_core.proofs.plain.run_len.Given as goal

-- the bytes so far are written as they are
abbrev pub invariant-vectors : goal.invariant-vectors
invariant-vectors l = (l.len ≤ length l.bytes) × ArePlain (take l.len l.bytes)

abbrev pub decreases-vectors : goal.decreases-vectors
decreases-vectors l = length l.bytes - l.len

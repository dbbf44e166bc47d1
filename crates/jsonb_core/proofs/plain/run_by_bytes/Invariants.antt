use Rattle.std.proofs.Common.{take}
use Rattle.jsonb_spec.specs.Text.StringText.{ArePlain}
use Rattle.jsonb_core.proofs.plain.run_by_bytes.Given as goal

-- the bytes so far are written as they are
abbrev pub invariant-bytes : goal.invariant-bytes
invariant-bytes l = ArePlain (take l.i l.bytes)

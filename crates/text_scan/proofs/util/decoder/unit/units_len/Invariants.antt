use Rattle.std.proofs.Common.{◌-◌, ◌≤◌, length, take}
use Rattle.jsonb_spec.specs.Parsing.Decoding.{AreUnits}
use Rattle.text_scan.proofs.util.decoder.unit.units_len.Given as goal

abbrev pub invariant-units : goal.invariant-units
invariant-units l = record { within : l.len ≤ length l.bytes; units : AreUnits (take l.len l.bytes) }

abbrev pub decreases-units : goal.decreases-units
decreases-units l = length l.bytes - l.len

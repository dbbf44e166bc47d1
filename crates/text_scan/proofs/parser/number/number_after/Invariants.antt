use Rattle.std.proofs.Common.{◌≡◌, ◌<◌, ◌^◌, take}
use Rattle.std.specs.Str.Parse.{digits_value_after}
use Rattle.text_scan.proofs.parser.number.number_after.Given as goal

abbrev pub invariant-loop-byte : goal.invariant-loop-byte
invariant-loop-byte l = (l.number ≡ digits_value_after l.base l.front (take l.byte-index l.digits)) × (l.number < 2 ^ 128)

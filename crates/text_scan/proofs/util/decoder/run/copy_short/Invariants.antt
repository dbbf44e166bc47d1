use Rattle.std.proofs.Common.{◌≡◌, ◌+◌, ◌≤◌, ◌++◌, ◌-◌, length, take}
use Rattle.jsonb_spec.specs.Parsing.Decoding.{SeesNoBackslash}
use Rattle.text_scan.proofs.util.decoder.run.copy_short.Given as goal

abbrev pub invariant-bytes : goal.invariant-bytes
invariant-bytes l =
    (l.count ≤ length l.bytes) × SeesNoBackslash l.bytes l.count × (take (l.len + l.count) l.text ≡ take l.len l.initial.text ++ take l.count l.bytes) × (length l.text ≡ length l.initial.text)

abbrev pub decreases-bytes : goal.decreases-bytes
decreases-bytes l = length l.bytes - l.count

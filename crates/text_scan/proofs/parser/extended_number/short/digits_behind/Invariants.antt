use Rattle.std.proofs.Common.{◌≡◌, ◌+◌, ◌-◌, ◌^◌, ◌<◌, ◌≤◌, length, take, drop}
use Rattle.std.specs.Str.Parse.{digits_value_after}
use Rattle.jsonb_spec.specs.Parsing.Number.{digits_length}
use Rattle.text_scan.proofs.parser.extended_number.short.digits_behind.Given as goal

abbrev pub invariant-digits : goal.invariant-digits
invariant-digits l =
    (l.count ≤ length l.bytes) × (l.before.len + l.count ≤ 19)
    × (digits_length l.bytes ≡ l.count + digits_length (drop l.count l.bytes))
    × (l.value ≡ digits_value_after 10 l.before.value (take l.count l.bytes))
    × (l.value < 10 ^ (l.before.len + l.count))

abbrev pub decreases-digits : goal.decreases-digits
decreases-digits l = length l.bytes - l.count

use Rattle.std.proofs.Common.{◌≡◌, ◌+◌, ◌-◌, ◌^◌, ◌<◌, ◌≤◌, take, drop}
use Rattle.std.specs.Str.Parse.{digits_value}
use Rattle.jsonb_spec.specs.Parsing.Number.{digits_length}
use Rattle.text_scan.proofs.parser.number.digits_within.Given as goal

abbrev pub invariant-digits : goal.invariant-digits
invariant-digits l =
    (l.len ≤ l.limit)
    × (digits_length l.bytes ≡ l.len + digits_length (drop l.len l.bytes))
    × (l.value ≡ digits_value 10 (take l.len l.bytes))
    × (l.value < 10 ^ l.len)

abbrev pub decreases-digits : goal.decreases-digits
decreases-digits l = l.limit - l.len

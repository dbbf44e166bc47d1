use Rattle.std.proofs.Common.{◌+◌, ◌-◌, ◌<◌, length}
use Rattle.text_scan.proofs.Strings.BareKeys.{KeyFrom}
use Rattle.text_scan.proofs.parser.key.find_key_end.Given as goal

abbrev pub invariant-characters : goal.invariant-characters
invariant-characters l = KeyFrom l.bytes l.at × (l.at < length l.bytes + 4)

abbrev pub decreases-characters : goal.decreases-characters
decreases-characters l = length l.bytes - l.at

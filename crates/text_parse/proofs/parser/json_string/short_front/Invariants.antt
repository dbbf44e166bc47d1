use Rattle.std.proofs.Common.{◌-◌, length}
use Rattle.text_parse.specs.JsonString.{IsJsonFront}
use Rattle.text_parse.proofs.parser.json_string.short_front.Given as goal

abbrev pub invariant-runs : goal.invariant-runs
invariant-runs l = IsJsonFront l.bytes l.end l.is_same

abbrev pub decreases-runs : goal.decreases-runs
decreases-runs l = length l.bytes - l.end

use Rattle.std.proofs.Common.{◌-◌, length}
use Rattle.text_parse.specs.JsonString.{IsJsonFront}
use Rattle.text_parse.proofs.parser.json_string.json_end.Given as goal

abbrev pub invariant-parts : goal.invariant-parts
invariant-parts l = IsJsonFront l.bytes l.end l.is_same

abbrev pub decreases-parts : goal.decreases-parts
decreases-parts l = length l.bytes - l.end

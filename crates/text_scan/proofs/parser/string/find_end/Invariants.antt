use Rattle.std.proofs.Common.{◌+◌, ◌-◌, ◌<◌, length}
use Rattle.jsonb_spec.specs.Parsing.Decoding.{ReportsBackslash}
use Rattle.text_scan.specs.QuotedString.{KnowsMarks}
use Rattle.text_scan.proofs.Strings.Bodies.{SearchFrom}
use Rattle.text_scan.proofs.parser.string.find_end.Given as goal

abbrev pub invariant-items : goal.invariant-items
invariant-items l = SearchFrom l.quote l.bytes l.at × ReportsBackslash l.bytes l.at l.escaped × (l.at < length l.bytes + 8) × KnowsMarks l.quote l.bytes l.at l.marks

abbrev pub decreases-items : goal.decreases-items
decreases-items l = length l.bytes - l.at

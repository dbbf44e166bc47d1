use Rattle.std.proofs.Common.{◌≡◌, ◌-◌}
use Rattle.jsonb_spec.specs.Parsing.Whitespace.{skip_closed_whitespace}
use Rattle.text_scan.specs.Answer.{grammar_of}
use Rattle.text_parse.specs.Parser.{rest_of, size_of, Advances}
use Rattle.text_parse.proofs.parser.Parser.skip_lines.Given as goal

abbrev pub invariant-pieces : goal.invariant-pieces
invariant-pieces l = (skip_closed_whitespace (grammar_of l.initial.self.grammar) (rest_of l.self) ≡ skip_closed_whitespace (grammar_of l.initial.self.grammar) (rest_of l.initial.self)) × Advances l.initial.self l.self

abbrev pub decreases-pieces : goal.decreases-pieces
decreases-pieces l = size_of l.self - l.self.offset

use Rattle.std.proofs.Common.{◌≡◌, ◌-◌, length}
use Rattle.jsonb_spec.specs.Parsing.Whitespace.{skip_closed_whitespace}
use Rattle.text_scan.specs.Answer.{grammar_of}
use Rattle.text_parse.specs.Parser.{rest_of, Advances}
use Rattle.text_parse.proofs.parser.Parser.skip_each_closed_piece.Given as goal

abbrev pub invariant-whitespace : goal.invariant-whitespace
invariant-whitespace l = (skip_closed_whitespace (grammar_of l.initial.self.grammar) (rest_of l.self) ≡ skip_closed_whitespace (grammar_of l.initial.self.grammar) (rest_of l.initial.self)) × Advances l.initial.self l.self

abbrev pub decreases-whitespace : goal.decreases-whitespace
decreases-whitespace l = length l.self.buf.now - l.self.offset

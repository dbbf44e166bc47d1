use Rattle.std.proofs.Common.{◌≡◌, ◌-◌, length}
use Rattle.jsonb_spec.specs.Parsing.Whitespace.{skip_closed_whitespace}
use Rattle.text_scan.specs.Answer.{grammar_of}
use Rattle.text_parse.specs.Parser.{rest_of, Advances}
use Rattle.text_parse.proofs.parser.Parser.skip_spaces.Given as goal

abbrev pub invariant-rows : goal.invariant-rows
invariant-rows l = (skip_closed_whitespace (grammar_of l.fn.self.grammar) (rest_of l.self) ≡ skip_closed_whitespace (grammar_of l.fn.self.grammar) (rest_of l.fn.self)) × Advances l.fn.self l.self

abbrev pub decreases-rows : goal.decreases-rows
decreases-rows l = length l.self.buf.now - l.self.offset

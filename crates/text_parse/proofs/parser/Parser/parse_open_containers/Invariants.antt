use Rattle.std.proofs.Common.{◌≡◌, ◌-◌, ◌<◌, ◌≤◌, true, [], length}
use Rattle.jsonb_spec.specs.Grammar.{max_depth}
use Rattle.text_parse.specs.Frames.{AtPart}
use Rattle.text_scan.specs.Answer.{grammar_of}
use Rattle.text_parse.specs.Parser.{Advances, rest_of, size_of}
use Rattle.jsonb_spec.specs.Parsing.Document.{value_at}
use Rattle.text_parse.proofs.parser.Parser.parse_open_containers.Given as goal

-- what is parsed of the whole is what is left to parse inside of the open containers
abbrev pub invariant-turns : goal.invariant-turns
invariant-turns g l =
    let p = l.fn.self in record {
      open-stack : 0 < length l.stack.items;
      depth : length l.stack.items ≤ max_depth;
      advances : Advances p l.self;
      base : g.V.Handler.base l.sink ≡ g.V.Handler.base l.fn.sink;
      ahead : g.V.Handler.holds p.buf.now l.fn.sink true [] [] → AtPart (g.V.Handler.holds p.buf.now l.sink) (value_at (size_of p) (grammar_of p.grammar) max_depth (rest_of p)) l.self l.stack.items l.closed;
    }

abbrev pub decreases-turns : goal.decreases-turns
decreases-turns g l = size_of l.self - l.self.offset

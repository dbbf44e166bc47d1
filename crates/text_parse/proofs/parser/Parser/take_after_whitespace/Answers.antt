use Rattle.std.proofs.Common.{ap, ◌∙◌}
use Rattle.text_scan.specs.Answer.{grammar_of}
use Rattle.text_parse.specs.Parser.{rest_of}
use Rattle.jsonb_spec.specs.Parsing.Whitespace.{skip_whitespace}
use Rattle.text_scan.proofs.Text.Whitespace.{skip-stop}
use Rattle.text_parse.proofs.parser.Parser.take_after_whitespace.Goals as goal

pub returns-then-take_byte-clause-rest : goal.returns-then-take_byte-clause-rest
returns-then-take_byte-clause-rest c =
    let mode = grammar_of c.args.self.now.grammar in
    ap (skip_whitespace mode) c.if-take_byte.ensures.rest ∙ skip-stop mode c.args.byte (rest_of c.take_byte.new.self) c.requires.stop

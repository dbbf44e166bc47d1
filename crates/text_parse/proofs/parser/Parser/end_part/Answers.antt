use Rattle.std.proofs.Common.{true, false, refl, ap, sym, ◌∙◌, rules}
use Rattle.jsonb_core.specs.Error.CodeView.{code_of}
use Rattle.text_scan.specs.Answer.{grammar_of}
use Rattle.text_parse.specs.Parser.{rest_of, size_of}
use Rattle.text_parse.proofs.Steps.Ends.{close_ends, comma_ends}
use Rattle.text_parse.proofs.parser.Parser.end_part.Goals as goal

pub returns-then-take_byte : goal.returns-then-take_byte
returns-then-take_byte c =
    record {
      parses = let p = c.args.self.now in (false, refl, comma_ends (size_of p) (code_of c.args.code) c.args.close (grammar_of p.grammar) (rest_of p) (rest_of c.take_byte.new.self) c.if-take_byte.ensures.rest);
      onward = search rules;
      advances = search rules;
    }

pub returns-then-take_byte-2 : goal.returns-then-take_byte-2
returns-then-take_byte-2 c =
    record {
      parses = let p = c.args.self.now in (true, refl, close_ends (size_of p) (code_of c.args.code) c.args.close (grammar_of p.grammar) (rest_of p) (rest_of c.take_byte-2.new.self) c.requires.stop c.requires.other (ap rest_of (sym c.if-take_byte.ensures.rest) ∙ c.if-take_byte-2.ensures.rest));
      onward = search rules;
      advances = search rules;
    }

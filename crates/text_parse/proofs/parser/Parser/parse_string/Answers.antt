use Rattle.std.proofs.Common.{◌+◌, ap, drop, drop-drop, sym, ◌∙◌, rules}
use Rattle.jsonb_spec.specs.Tree.{string}
use Rattle.jsonb_spec.specs.Tree.Mark.{plain}
use Rattle.text_scan.specs.Answer.{grammar_of}
use Rattle.jsonb_spec.specs.Parsing.Scalar.{quoted_at}
use Rattle.text_parse.specs.Handler.{AsScalar}
use Rattle.text_parse.specs.Parser.{rest_of, size_of}
use Rattle.text_parse.proofs.Scalars.Built.{string_read}
use Rattle.text_parse.proofs.Steps.Failures.{builds_same}
use Rattle.text_parse.proofs.parser.Parser.parse_string.Goals as goal

pub returns-in-Some : goal.returns-in-Some
returns-in-Some g c =
    record {
      parses =
          let p = c.args.self.now in
          let body = c.in-Some.body.now in (
            string plain body,
            c.scalar.ensures,
            ap (quoted_at (size_of p) (grammar_of p.grammar) c.args.quote) (drop-drop 1 p.offset p.buf.now)
                ∙ string_read (size_of p) (grammar_of p.grammar) c.args.quote (drop (p.offset + 1) p.buf.now) (plain, body) _ c.in-Some.ensures.parses,
          );
      memory = search rules;
      advances = search rules;
    }

pub returns : goal.returns
returns g c =
    record {
      parses =
          let p = c.args.self.now in
          let quote = c.args.quote in
          builds_same g.V.Handler.silent c.parse_escaped_string.new.self.reported (AsScalar g.V.Handler.sees) c.parse_escaped_string.result _ _ _
          (ap (quoted_at (size_of p) (grammar_of p.grammar) quote) (drop-drop 1 p.offset p.buf.now)
          ∙ sym (ap (λ o. quoted_at (size_of o) (grammar_of o.grammar) quote (rest_of o)) c.in_default.ensures.stays))
          c.parse_escaped_string.ensures.parses;
      memory = search rules;
      advances = search rules;
    }

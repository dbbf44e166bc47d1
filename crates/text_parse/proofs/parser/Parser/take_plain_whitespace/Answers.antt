use Rattle.std.proofs.Common.{◌≡◌, ℕ, [], ◌∷◌, refl, sym, ap, ◌∙◌, rules}
use Rattle.jsonb_spec.specs.Grammar.Whitespace.{IsWhitespacePiece}
use Rattle.jsonb_spec.specs.Grammar.Whitespace.IsWhitespacePiece.{space, tab, line_feed, carriage_return}
use Rattle.text_scan.specs.Answer.{grammar_of}
use Rattle.text_parse.specs.Parser.{rest_of}
use Rattle.jsonb_spec.specs.Parsing.Whitespace.{skip_closed_whitespace}
use Rattle.text_parse.specs.declared.parser.Parser.{Parser}
use Rattle.text_scan.proofs.Text.Whitespace.{pass-piece}
use Rattle.text_parse.proofs.parser.Parser.take_plain_whitespace.Goals as goal

-- one byte that is whitespace was passed
passed : (p q r : Parser) (byte : ℕ) → q ≡ p → rest_of q ≡ byte ∷ rest_of r → IsWhitespacePiece (grammar_of p.grammar) (byte ∷ []) → skip_closed_whitespace (grammar_of p.grammar) (rest_of r) ≡ skip_closed_whitespace (grammar_of p.grammar) (rest_of p)
passed p q r byte same rest piece = sym (ap (λ s. skip_closed_whitespace (grammar_of p.grammar) (rest_of s)) (sym same) ∙ ap (skip_closed_whitespace (grammar_of p.grammar)) rest ∙ pass-piece piece (rest_of r))

pub returns-then-take_byte-clause-skips : goal.returns-then-take_byte-clause-skips
returns-then-take_byte-clause-skips c =
    record {
      rest =
          passed c.args.self.now c.args.self.now c.take_byte.new.self 32 refl c.if-take_byte.ensures.rest space;
      advances = search rules;
    }

pub returns-then-take_byte-2-clause-skips : goal.returns-then-take_byte-2-clause-skips
returns-then-take_byte-2-clause-skips c =
    record {
      rest =
          passed c.args.self.now c.take_byte.new.self c.take_byte-2.new.self 10 c.if-take_byte.ensures.rest c.if-take_byte-2.ensures.rest line_feed;
      advances = search rules;
    }

pub returns-then-take_byte-3-clause-skips : goal.returns-then-take_byte-3-clause-skips
returns-then-take_byte-3-clause-skips c =
    record {
      rest =
          passed c.args.self.now c.take_byte-2.new.self c.take_byte-3.new.self 9 (c.if-take_byte-2.ensures.rest ∙ c.if-take_byte.ensures.rest) c.if-take_byte-3.ensures.rest tab;
      advances = search rules;
    }

pub returns-then-take_byte-4-clause-skips : goal.returns-then-take_byte-4-clause-skips
returns-then-take_byte-4-clause-skips c =
    record {
      rest =
          passed c.args.self.now c.take_byte-3.new.self c.take_byte-4.new.self 13 (c.if-take_byte-3.ensures.rest ∙ c.if-take_byte-2.ensures.rest ∙ c.if-take_byte.ensures.rest) c.if-take_byte-4.ensures.rest carriage_return;
      advances = search rules;
    }

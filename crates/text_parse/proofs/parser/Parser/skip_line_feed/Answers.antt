use Rattle.std.proofs.Common.{◌≡◌, Bool, true, false, ◌∷◌, MatchBool, ap, sym, ◌∙◌, rules}
use Rattle.jsonb_spec.specs.Grammar.Whitespace.IsWhitespacePiece.{line_feed}
use Rattle.jsonb_spec.specs.Mode.{Mode}
use Rattle.text_scan.specs.Answer.{grammar_of}
use Rattle.jsonb_spec.specs.Parsing.Whitespace.{skip_closed_whitespace}
use Rattle.text_parse.specs.Parser.{rest_of}
use Rattle.text_parse.specs.declared.parser.Parser.{Parser}
use Rattle.text_scan.proofs.Text.Whitespace.{pass-piece}
use Rattle.text_parse.proofs.parser.Parser.skip_line_feed.Goals as goal

-- a line feed was passed, or nothing
passed : (mode : Mode) (found : Bool) (p q : Parser) → MatchBool found (rest_of p ≡ 10 ∷ rest_of q) (q ≡ p) → skip_closed_whitespace mode (rest_of q) ≡ skip_closed_whitespace mode (rest_of p)
passed mode true p q h = sym (ap (skip_closed_whitespace mode) h ∙ pass-piece line_feed (rest_of q))
passed mode false p q h = ap (λ s. skip_closed_whitespace mode (rest_of s)) h

pub returns : goal.returns
returns c =
    record {
      rest =
          passed (grammar_of c.args.self.now.grammar) c.take_byte-found.result c.args.self.now c.take_byte-found.new.self c.take_byte-found.ensures.rest;
      advances = search rules;
    }

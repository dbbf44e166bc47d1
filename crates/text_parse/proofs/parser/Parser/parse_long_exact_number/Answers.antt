use Rattle.std.proofs.Common.{sym, ap, ◌∙◌, Ok, rules}
use Rattle.jsonb_core.specs.Error.CodeView.{code_of}
use Rattle.text_scan.specs.Answer.{grammar_of}
use Rattle.text_scan.specs.ScannedNumber.{number_views}
use Rattle.text_parse.specs.Grammars.{exact_scan}
use Rattle.text_parse.proofs.Scalars.ExactNumbers.{exact_read, exact_missing, exact_fault}
use Rattle.text_parse.proofs.parser.Parser.parse_long_exact_number.Goals as goal

pub returns-in-Err : goal.returns-in-Err
returns-in-Err c =
    record {
      parses =
          let p = c.args.self.now in
          exact_fault (grammar_of p.grammar) c.requires.exponents p.offset p.buf.now c.args.bytes.now c.requires.bytes c.in-Err.fault.offset (code_of c.in-Err.fault.code) p.inside (ap (λ s. exact_scan s c.args.bytes.now) (sym p.agree) ∙ sym c.in-Err.ensures.scan);
      takes_no_memory = search rules;
      advances = search rules;
    }

pub returns-in-Some : goal.returns-in-Some
returns-in-Some c =
    record {
      parses =
          let p = c.args.self.now in
          exact_read (grammar_of p.grammar) c.requires.exponents p.offset p.buf.now c.args.bytes.now c.requires.bytes c.in-Ok.text.end _ (ap (λ s. exact_scan s c.args.bytes.now) (sym p.agree) ∙ sym c.in-Ok.ensures.scan ∙ ap (λ o. Ok (number_views o, c.in-Ok.text.end)) c.in-Some.is);
      takes_no_memory = search rules;
      advances = search rules;
    }

pub returns-in-None : goal.returns-in-None
returns-in-None c =
    record {
      parses =
          let p = c.args.self.now in
          exact_missing (grammar_of p.grammar) c.requires.exponents p.offset p.buf.now c.args.bytes.now c.requires.bytes c.in-Ok.text.end p.inside c.in-Ok.ensures.within (ap (λ s. exact_scan s c.args.bytes.now) (sym p.agree) ∙ sym c.in-Ok.ensures.scan ∙ ap (λ o. Ok (number_views o, c.in-Ok.text.end)) c.in-None.is);
      takes_no_memory = search rules;
      advances = search rules;
    }

use Rattle.std.proofs.Common.{◌≡◌, sym, ap, ◌∙◌, rules}
use Rattle.jsonb_spec.specs.Code.{invalid_number_value}
use Rattle.jsonb_spec.specs.Mode.{strict, strictness}
use Rattle.text_scan.specs.Answer.{grammar_of}
use Rattle.text_parse.specs.Grammars.{exact_scan}
use Rattle.text_parse.proofs.Scalars.ExactNumbers.{exact_read, exact_fault, exact_short}
use Rattle.text_parse.proofs.parser.Parser.parse_exact_number.Goals as goal

pub returns-in-Some : goal.returns-in-Some
returns-in-Some c =
    record {
      parses =
          let p = c.args.self.now in
          let bytes = c.rest-bytes.result.now in
          rw c.invalid_number.ensures (exact_fault (grammar_of p.grammar) c.requires.exponents p.offset p.buf.now bytes c.rest-bytes.ensures c.in-Some.offset invalid_number_value p.inside (ap (λ s. exact_scan s bytes) (sym p.agree) ∙ c.in-Some.ensures.fault));
      takes_no_memory = search rules;
      advances = search rules;
    }

pub returns-in-Some-short_exact : goal.returns-in-Some-short_exact
returns-in-Some-short_exact c =
    record {
      parses =
          let p = c.args.self.now in
          let bytes = c.rest-bytes.result.now in
          let read = c.in-Some-short_exact.read in
          let whole = λ (is : strictness (grammar_of p.grammar) ≡ strict). c.in_default.ensures.fault (p.agree ∙ is) in
          exact_read (grammar_of p.grammar) c.requires.exponents p.offset p.buf.now bytes c.rest-bytes.ensures read.end _
          (exact_short (strictness (grammar_of p.grammar)) bytes _ _ read.end whole c.in-Some-short_exact.ensures.extended c.in-Some-short_exact.ensures.json);
      takes_no_memory = search rules;
      advances = search rules;
    }

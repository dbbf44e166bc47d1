use Rattle.std.proofs.Common.{ap, sym, ◌∙◌, rules}
use Rattle.jsonb_spec.specs.Code.Code.{expected_some_ident}
use Rattle.jsonb_spec.specs.Mode.{strictness}
use Rattle.text_scan.specs.Answer.{mode_of, grammar_of}
use Rattle.text_parse.specs.Parser.{rest_of, size_of}
use Rattle.jsonb_spec.specs.Parsing.{fault_at}
use Rattle.jsonb_spec.specs.Parsing.Scalar.{key_at, unquoted_at}
use Rattle.text_parse.proofs.Steps.Outcomes.{key_bare, key_quoted, key_single}
use Rattle.text_parse.proofs.Steps.Advancing.{fails}
use Rattle.text_parse.proofs.parser.Parser.parse_key.Goals as goal

pub returns-then-take_byte : goal.returns-then-take_byte
returns-then-take_byte c =
    record {
      parses =
          rw (key_quoted c.args.self.now c.take_byte.new.self c.take_byte.ensures.advances c.if-take_byte.ensures.rest) c.parse_quoted.ensures.parses;
      memory = search rules;
      advances = search rules;
    }

pub returns-then-take_single_quote : goal.returns-then-take_single_quote
returns-then-take_single_quote c =
    record {
      parses =
          rw (key_single c.args.self.now c.take_byte.new.self c.take_single_quote.new.self c.if-take_byte.ensures.rest (sym c.if-take_byte.ensures.found) c.take_single_quote.ensures.advances (sym c.if-take_single_quote.ensures.found) c.if-take_single_quote.ensures.rest)
          c.parse_quoted-then-take_single_quote.ensures.parses;
      memory = search rules;
      advances = search rules;
    }

pub returns-in-Standard : goal.returns-in-Standard
returns-in-Standard c =
    record {
      parses =
          let p = c.args.self.now in
          let q = c.take_byte.new.self in
          let r = c.take_single_quote.new.self in
          fails c.fault_at_next.result (fault_at (size_of r) expected_some_ident 1 (rest_of r)) (key_at (size_of p) (grammar_of p.grammar) (rest_of p)) c.fault_at_next.ensures
          (key_bare p q r c.if-take_byte.ensures.rest (sym c.if-take_byte.ensures.found) c.if-take_single_quote.ensures.rest (sym c.if-take_single_quote.ensures.found) ∙ ap (λ s. unquoted_at (size_of r) s (rest_of r)) (sym r.agree ∙ ap (λ m. strictness (mode_of m)) c.in-Standard.is));
      memory = search rules;
      advances = search rules;
    }

pub returns-in-Extended : goal.returns-in-Extended
returns-in-Extended c =
    record {
      parses =
          let p = c.args.self.now in
          let q = c.take_byte.new.self in
          let r = c.take_single_quote.new.self in
          rw (key_bare p q r c.if-take_byte.ensures.rest (sym c.if-take_byte.ensures.found) c.if-take_single_quote.ensures.rest (sym c.if-take_single_quote.ensures.found) ∙ ap (λ s. unquoted_at (size_of r) s (rest_of r)) (sym r.agree ∙ ap (λ m. strictness (mode_of m)) c.in-Extended.is))
          c.parse_bare_key.ensures.parses;
      memory = search rules;
      advances = search rules;
    }

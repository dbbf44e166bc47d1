use Rattle.std.proofs.Common.{◌≡◌, Err, ap, drop, length, sym, ◌∙◌, rules}
use Rattle.jsonb_spec.specs.Mode.{strictness}
use Rattle.jsonb_spec.specs.Tree.{null}
use Rattle.text_scan.specs.Answer.{mode_of, grammar_of}
use Rattle.jsonb_spec.specs.Parsing.Scalar.{null_at, number_value_at}
use Rattle.text_parse.specs.Handler.{AsScalar}
use Rattle.text_parse.specs.Parser.{rest_of, size_of}
use Rattle.text_parse.proofs.Scalars.Built.{null_missed, null_read}
use Rattle.text_parse.proofs.Steps.Failures.{builds_same}
use Rattle.text_parse.proofs.parser.Parser.parse_null.Goals as goal

pub returns-in-Ok : goal.returns-in-Ok
returns-in-Ok g c =
    record {
      parses =
          let p = c.args.self.now in (null, c.scalar.ensures, null_read (size_of p) (grammar_of p.grammar) (rest_of p) _ c.in-Ok.ensures.parses);
      memory = search rules;
      advances = search rules;
    }

pub returns-in-Extended : goal.returns-in-Extended
returns-in-Extended g c =
    record {
      parses =
          let p = c.args.self.now in
          let q = c.parse_word.new.self in
          let on = c.parse_word.ensures.advances in
          let left = drop p.offset q.buf.now in
          let same : null_at (size_of p) (grammar_of p.grammar) (rest_of p) ≡ number_value_at (size_of q) (grammar_of q.grammar) left =
          null_missed (size_of p) (grammar_of p.grammar) (rest_of p) c.in-Err.error (sym p.agree ∙ ap (λ m. strictness (mode_of m)) (sym on.mode ∙ c.in-Extended.is)) (λ e. c.in-Err.ensures.takes_no_memory (ap Err e)) c.in-Err.ensures.parses
          ∙ ap (λ b. number_value_at (length b.now) (grammar_of p.grammar) (drop p.offset b.now)) (sym on.buf) ∙ ap (λ m. number_value_at (size_of q) (grammar_of m) left) (sym on.grammar) in
          builds_same g.V.Handler.silent c.parse_number_value.new.self.reported (AsScalar g.V.Handler.sees) c.parse_number_value.result _ _ _ same
          c.parse_number_value.ensures.parses;
      memory = search rules;
      advances = search rules;
    }

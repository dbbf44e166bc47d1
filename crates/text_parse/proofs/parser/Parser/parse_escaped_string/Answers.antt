use Rattle.std.proofs.Common.{◌+◌, Err, ap, sym, subst, ◌∙◌, rules}
use Rattle.std.specs.Cow.{cow_str_bytes}
use Rattle.jsonb_spec.specs.Tree.{string}
use Rattle.jsonb_core.specs.View.{mark_view}
use Rattle.text_scan.specs.Answer.{mode_of, grammar_of}
use Rattle.jsonb_spec.specs.Parsing.Scalar.{quoted_at}
use Rattle.jsonb_spec.specs.Parsing.String.{body_of}
use Rattle.text_parse.specs.Handler.{SeesContents}
use Rattle.text_parse.specs.Parser.{rest_of, size_of}
use Rattle.text_parse.proofs.Scalars.Built.{string_read}
use Rattle.text_parse.proofs.Scalars.Contents.{contents_escaped, contents_fail, contents_read, rejects_seen}
use Rattle.text_parse.proofs.Steps.Outcomes.{unmoved}
use Rattle.text_parse.proofs.parser.Parser.parse_escaped_string.Goals as goal

pub returns-in-Ok : goal.returns-in-Ok
returns-in-Ok g c =
    record {
      parses =
          let p = c.args.self.now in
          let q = c.escaped_contents.new.self in
          let s = c.in-Ok.string in (
            string (mark_view s) (cow_str_bytes s),
            c.scalar.ensures,
            unmoved p q c.in_default.ensures.stays (λ o. quoted_at (size_of o) (grammar_of o.grammar) c.args.quote (rest_of o))
                ∙ string_read (size_of q) (grammar_of q.grammar) c.args.quote (rest_of q) (mark_view s, cow_str_bytes s) _ c.in-Ok.ensures.parses,
          );
      memory = search rules;
      advances = search rules;
    }

pub returns-in-Ok-escaped_string : goal.returns-in-Ok-escaped_string
returns-in-Ok-escaped_string g c =
    record {
      parses =
          let p = c.args.self.now in
          let q = c.escaped_contents.new.self in
          let made = c.in-Ok-escaped_string.ensures in
          let body = c.in-Some.body.now in
          let bytes = c.as_bytes.ensures.value in
          let read = ap (λ m. body_of (grammar_of m) body) (sym c.escaped_contents.ensures.advances.grammar) ∙ ap (body_of (grammar_of q.grammar)) (sym bytes) ∙ c.in_default-check_grammar.ensures.passed ∙ ap (body_of (mode_of q.mode)) bytes ∙ made.2 in
          (string made.0.0 made.0.1, made.1, contents_read c.args.quote p q c.in-Some.body.now c.in-Some.ensures.passes made.0 read);
      memory = search rules;
      advances = search rules;
    }

pub returns-in-Err-escaped_string : goal.returns-in-Err-escaped_string
returns-in-Err-escaped_string g c =
    record {
      parses =
          let p = c.args.self.now in
          let q = c.escaped_contents.new.self in
          let body = c.in-Some.body.now in
          let bytes = c.as_bytes.ensures.value in
          let read = ap (λ m. body_of (grammar_of m) body) (sym c.escaped_contents.ensures.advances.grammar) ∙ ap (body_of (grammar_of q.grammar)) (sym bytes) ∙ c.in_default-check_grammar.ensures.passed ∙ ap (body_of (mode_of q.mode)) bytes in
          let rejected = subst (SeesContents g.V.Handler.sees (p.offset + 1) (Err c.in-Err-escaped_string.error)) (sym read) c.in-Err-escaped_string.ensures in
          contents_fail c.args.quote p c.escaped_contents.new.self c.in-Some.body.now c.in-Some.ensures.passes g.V.Handler.sees g.V.Handler.silent c.fail-in-Err-escaped_string.new.self.reported c.in-Err-escaped_string.error c.fail-in-Err-escaped_string.ensures.reported rejected;
      memory = λ is. contents_escaped c.args.quote c.args.self.now c.escaped_contents.new.self c.in-Some.body.now c.in-Some.ensures.passes;
      advances = search rules;
    }

pub returns-in-Err-check_grammar : goal.returns-in-Err-check_grammar
returns-in-Err-check_grammar g c =
    record {
      parses =
          let p = c.args.self.now in
          let q = c.escaped_contents.new.self in
          let read = ap (λ m. body_of (grammar_of m) c.in-Some.body.now) (sym c.escaped_contents.ensures.advances.grammar) ∙ ap (body_of (grammar_of q.grammar)) (sym c.as_bytes.ensures.value) in
          let e = c.in-Err-check_grammar.error in
          contents_fail c.args.quote p q c.in-Some.body.now c.in-Some.ensures.passes g.V.Handler.sees g.V.Handler.silent c.fail-in-Err-check_grammar.new.self.reported e c.fail-in-Err-check_grammar.ensures.reported
          (subst (SeesContents g.V.Handler.sees (p.offset + 1) (Err e)) (sym read) (rejects_seen g.V.Handler.sees (p.offset + 1) e _ c.in-Err-check_grammar.ensures.rejected));
      memory = λ is. contents_escaped c.args.quote c.args.self.now c.escaped_contents.new.self c.in-Some.body.now c.in-Some.ensures.passes;
      advances = search rules;
    }

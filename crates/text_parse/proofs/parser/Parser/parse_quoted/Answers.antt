use Rattle.std.proofs.Common.{◌≡◌, ◌+◌, ◌-◌, List, ℕ, true, Result, Ok, Err, length, take, sym, ap, subst, ◌∙◌, arith, length-drop, drop-drop, rules}
use Rattle.std.proofs.lemmas.Result.{err_from_is_err_and}
use Rattle.std.proofs.lemmas.List.{length-take-le}
use Rattle.std.specs.Cow.{cow_str_bytes}
use Rattle.jsonb_spec.specs.Code.{invalid_eof}
use Rattle.jsonb_core.specs.View.{mark_view}
use Rattle.jsonb_core.specs.declared.error.Error.{Error}
use Rattle.jsonb_core.specs.declared.error.Error.TheVariants.{OutOfMemory}
use Rattle.jsonb_spec.specs.Parsing.Decoding.{ReportsBackslash}
use Rattle.text_scan.specs.Answer.{grammar_of}
use Rattle.text_parse.specs.Parser.{rest_of, size_of}
use Rattle.text_scan.specs.QuotedString.{DecodesContents}
use Rattle.text_scan.specs.StrictString.{RejectsContents}
use Rattle.text_scan.proofs.Strings.Rows.{rejects_decoded}
use Rattle.jsonb_spec.specs.Parsing.{fault}
use Rattle.jsonb_spec.specs.Parsing.String.{body_of, quote_end}
use Rattle.text_scan.proofs.Strings.Ends.{quote_within}
use Rattle.text_scan.proofs.Strings.Bodies.{string-closed, string-unclosed, body_fails, contains_after, reports_taken}
use Rattle.text_parse.proofs.parser.Parser.parse_quoted.Goals as goal

same_error : {A : Type 0} (r : Result A Error) (x y : Error) → r ≡ Err x → r ≡ Err OutOfMemory → x ≡ y → y ≡ OutOfMemory
same_error r x y was is same = cc

pub slice_bounds-body-end : goal.slice_bounds-body-end
slice_bounds-body-end c =
    let within = quote_within c.args.quote c.rest-rest.result.now c.in-Closed.end c.in-Closed.ensures.0 in
    sym (length-take-le c.in-Closed.end c.rest-rest.result.now (omega (arith, within)))

pub returns-in_err-check_grammar-in-Closed : goal.returns-in_err-check_grammar-in-Closed
returns-in_err-check_grammar-in-Closed c =
    record {
      parses =
          let p = c.args.self.now in
          let rest-is = c.rest-rest.ensures in
          let end = c.in-Closed.end in
          let e = c.in_err-check_grammar-in-Closed.field-0.0 in
          let r = err_from_is_err_and c.from_residual.result c.from_residual.ensures.1 in
          let mode = grammar_of p.grammar in
          let found = ap (quote_end c.args.quote) (sym rest-is) ∙ c.in-Closed.ensures.0 in
          let body = subst (λ (u : List ℕ). DecodesContents (p.offset + 1) (Err e) (body_of mode (take end u))) rest-is (rejects_decoded (p.offset + 1) e _ c.in_err-check_grammar-in-Closed.ensures.rejected) in
          rw (r.1, r.2) (body_fails (size_of p) mode c.args.quote (rest_of p) end p.offset e found (omega (arith, length-drop p.offset p.buf.now, c.args.self.now.inside)) body);
      memory = λ is.
          let r = err_from_is_err_and c.from_residual.result c.from_residual.ensures.1 in
          let p = c.args.self.now in
          let read = body_of (grammar_of p.grammar) (take c.in-Closed.end c.rest-rest.result.now) in
          let none : RejectsContents (p.offset + 1) OutOfMemory read = subst (λ x. RejectsContents (p.offset + 1) x read) (same_error _ _ _ r.1 is r.2) c.in_err-check_grammar-in-Closed.ensures.rejected in
          absurd none;
      advances = search rules;
    }

pub returns-in_err-text-in-Closed : goal.returns-in_err-text-in-Closed
returns-in_err-text-in-Closed c =
    record {
      parses =
          let p = c.args.self.now in
          let rest-is = c.rest-rest.ensures in
          let end = c.in-Closed.end in
          let e = c.in_err-text-in-Closed.field-0.0 in
          let r = err_from_is_err_and c.from_residual-in_err-text-in-Closed.result c.from_residual-in_err-text-in-Closed.ensures.1 in
          let mode = grammar_of p.grammar in
          let found = ap (quote_end c.args.quote) (sym rest-is) ∙ c.in-Closed.ensures.0 in
          let body = subst (λ (u : List ℕ). DecodesContents (p.offset + 1) (Err e) (body_of mode (take end u))) rest-is (subst (DecodesContents (p.offset + 1) (Err e)) (sym c.in_ok-check_grammar-in-Closed.ensures.passed) c.in_err-text-in-Closed.ensures.parses) in
          rw (r.1, r.2) (body_fails (size_of p) mode c.args.quote (rest_of p) end p.offset e found (omega (arith, length-drop p.offset p.buf.now, c.args.self.now.inside)) body);
      memory = λ is.
          let p = c.args.self.now in
          let rest-is = c.rest-rest.ensures in
          let r = err_from_is_err_and c.from_residual-in_err-text-in-Closed.result c.from_residual-in_err-text-in-Closed.ensures.1 in
          let end = c.in-Closed.end in
          let sees : c.in-Closed.escaped ≡ true = c.in_err-text-in-Closed.ensures.memory (ap Err (same_error _ _ _ r.1 is r.2)) in
          let found = ap (quote_end c.args.quote) (sym rest-is) ∙ c.in-Closed.ensures.0 in
          contains_after p.buf.now p.offset end
          (subst (ReportsBackslash (rest_of p) end) sees (subst (λ (u : List ℕ). ReportsBackslash u end c.in-Closed.escaped) rest-is c.in-Closed.ensures.1))
          (omega (arith, quote_within c.args.quote (rest_of p) end found));
      advances = search rules;
    }

pub overflow_add-self-in-Closed : goal.overflow_add-self-in-Closed
overflow_add-self-in-Closed c =
    let within = quote_within c.args.quote c.rest-rest.result.now c.in-Closed.end c.in-Closed.ensures.0 in
    let p = c.args.self.now in
    omega (arith, within, ap length c.rest-rest.ensures, length-drop p.offset p.buf.now)

pub overflow_add-self : goal.overflow_add-self
overflow_add-self c =
    let within = quote_within c.args.quote c.rest-rest.result.now c.in-Closed.end c.in-Closed.ensures.0 in
    let p = c.args.self.now in
    omega (arith, within, ap length c.rest-rest.ensures, length-drop p.offset p.buf.now)

pub returns-in-Unclosed : goal.returns-in-Unclosed
returns-in-Unclosed c =
    record {
      parses =
          let p = c.args.self.now in
          let none = ap (quote_end c.args.quote) (sym c.rest-rest.ensures) ∙ c.in-Unclosed.ensures.0 in
          let offset : size_of p - length (rest_of p) + c.in-Unclosed.at ≡ p.offset + c.in-Unclosed.at = omega (arith, length-drop p.offset p.buf.now, c.args.self.now.inside) in
          string-unclosed (size_of p) (grammar_of p.grammar) c.args.quote (rest_of p) c.in-Unclosed.at none ∙ ap (λ (k : ℕ). fault invalid_eof k) offset;
      memory = search rules;
      advances = search rules;
    }

pub returns-in_ok-text-in-Closed : goal.returns-in_ok-text-in-Closed
returns-in_ok-text-in-Closed c =
    record {
      parses =
          let p = c.args.self.now in
          let rest-is = c.rest-rest.ensures in
          let end = c.in-Closed.end in
          let mode = grammar_of p.grammar in
          let found = ap (quote_end c.args.quote) (sym rest-is) ∙ c.in-Closed.ensures.0 in
          let body = ap (λ (u : List ℕ). body_of mode (take end u)) (sym rest-is) ∙ c.in_ok-check_grammar-in-Closed.ensures.passed ∙ c.in_ok-text-in-Closed.ensures.parses in
          string-closed (size_of p) mode c.args.quote (rest_of p) end _ found body ∙ ap (λ (u : List ℕ). Ok ((mark_view c.in_ok-text-in-Closed.text, cow_str_bytes c.in_ok-text-in-Closed.text), u)) (drop-drop (end + 1) p.offset p.buf.now);
      memory = search rules;
      advances = search rules;
    }

pub decode_contents-requires-clause-escaped : goal.decode_contents-requires-clause-escaped
decode_contents-requires-clause-escaped c =
    let within = quote_within c.args.quote c.rest-rest.result.now c.in-Closed.end c.in-Closed.ensures.0 in
    reports_taken c.rest-rest.result.now c.in-Closed.end c.in-Closed.escaped (omega (arith, within)) c.in-Closed.ensures.1

pub invariant_of-self : goal.invariant_of-self
invariant_of-self c =
    let within = quote_within c.args.quote c.rest-rest.result.now c.in-Closed.end c.in-Closed.ensures.0 in
    let p = c.args.self.now in
    record { inside = omega (arith, within, ap length c.rest-rest.ensures, length-drop p.offset p.buf.now, p.inside); agree = p.agree }

use Rattle.std.proofs.Common.{◌≡◌, ◌+◌, List, ℕ, Ok, true, drop, take, length, get_or, ap, sym, subst, ◌∙◌, arith}
use Rattle.std.proofs.lemmas.List.{length-take-le}
use Rattle.jsonb_spec.specs.Parsing.Decoding.{ReportsBackslash}
use Rattle.text_parse.specs.Parser.{rest_of}
use Rattle.jsonb_spec.specs.Parsing.String.{quote_end}
use Rattle.text_scan.proofs.Strings.Bodies.{reports_taken}
use Rattle.text_scan.proofs.Strings.Ends.{quote_within}
use Rattle.text_parse.proofs.Scalars.Contents.{quote_there}
use Rattle.text_parse.proofs.parser.Parser.escaped_contents.Goals as goal

pub cut-requires-clause-inside : goal.cut-requires-clause-inside
cut-requires-clause-inside c = omega (arith, quote_within c.args.quote c.rest.result.now c.in-Closed.end c.in-Closed.ensures.0, ap length c.rest.ensures)

pub cut-requires-clause-closed : goal.cut-requires-clause-closed
cut-requires-clause-closed c =
    ap (λ u. get_or u c.in-Closed.end 0) (sym c.rest.ensures) ∙ quote_there c.args.quote c.rest.result.now c.in-Closed.end c.in-Closed.ensures.0

pub returns-clause-passes : goal.returns-clause-passes
returns-clause-passes c =
    let rest : List ℕ = rest_of c.args.self.now in
    let end : ℕ = c.in-Closed.end in
    let cut = c.in_ok-body.ensures.cuts in
    let found : quote_end c.args.quote rest ≡ Ok end = ap (quote_end c.args.quote) (sym c.rest.ensures) ∙ c.in-Closed.ensures.0 in
    let within = quote_within c.args.quote rest end found in
    let long : length c.in_ok-body.body.now ≡ end = ap length cut.is ∙ length-take-le end rest (omega (arith, within)) in
    let reported = subst (ReportsBackslash rest end) c.if-not-escaped.false (subst (λ (u : List ℕ). ReportsBackslash u end c.in-Closed.escaped) c.rest.ensures c.in-Closed.ensures.1) in record {
      found = found ∙ ap (λ (n : ℕ). Ok n) (sym long);
      is = cut.is ∙ ap (λ (n : ℕ). take n rest) (sym long);
      escaped = subst (λ (u : List ℕ). ReportsBackslash u (length u) true) (sym cut.is) (reports_taken rest end true (omega (arith, within)) reported);
      within = omega (arith, within, long);
      rest = cut.rest ∙ ap (λ (n : ℕ). drop (n + 1) rest) (sym long);
    }

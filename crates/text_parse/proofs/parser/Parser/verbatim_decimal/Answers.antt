use Rattle.std.proofs.Common.{◌≡◌, true, subst, sym, ◌∙◌, rules}
use Rattle.std.specs.Prelude.{slice_index}
use Rattle.text_scan.specs.Answer.{grammar_of}
use Rattle.jsonb_spec.specs.Parsing.Number.{is_number_start}
use Rattle.jsonb_spec.specs.Parsing.Whitespace.{is_break}
use Rattle.jsonb_spec.specs.Text.VerbatimNumber.{IsVerbatimDecimal}
use Rattle.text_parse.specs.Parser.{rest_of, size_of}
use Rattle.text_parse.proofs.Scalars.VerbatimNumbers.{decimal_passes, separated_decimal}
use Rattle.text_parse.proofs.parser.Parser.verbatim_decimal.Goals as goal

pub returns-in-Some : goal.returns-in-Some
returns-in-Some c =
    record {
      passes =
          let p = c.args.self.now in
          let end = c.in-Some.end in
          let same = c.rest.ensures in
          let found = c.in-Some.ensures in
          decimal_passes p end _ _
          (separated_decimal (size_of p) (grammar_of p.grammar) (rest_of p) end (sym c.takes_decimals.ensures ∙ c.if-not-takes_decimals.false) (subst (λ bs. is_number_start (slice_index bs 0) ≡ true) same found.first) (subst (λ bs. IsVerbatimDecimal bs end) same found.decimal) (subst (λ bs. is_break (slice_index bs end) ≡ true) same found.ends));
      asked = search rules;
      advances = search rules;
    }

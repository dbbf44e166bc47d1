use Rattle.std.proofs.Common.{◌≡◌, true, subst, rules}
use Rattle.std.specs.Prelude.{slice_index}
use Rattle.text_scan.specs.Answer.{grammar_of}
use Rattle.text_parse.specs.Parser.{rest_of, size_of}
use Rattle.jsonb_spec.specs.Parsing.Whitespace.{is_break}
use Rattle.jsonb_spec.specs.Parsing.Number.{is_number_start}
use Rattle.text_scan.specs.ShortInteger.{IsVerbatimInteger}
use Rattle.jsonb_spec.specs.Text.VerbatimNumber.{IsVerbatimDecimal}
use Rattle.text_parse.proofs.Scalars.VerbatimNumbers.{separated_integer, separated_decimal, integer_passes, decimal_passes}
use Rattle.text_parse.proofs.parser.Parser.verbatim_number.Goals as goal

pub returns-then-read : goal.returns-then-read
returns-then-read c =
    record {
      passes =
          let p = c.args.self.now in
          let end = c.in_ok-read.read.end in
          let same = c.rest.ensures in
          let found = c.in_ok-read.ensures in
          decimal_passes p end _ _
          (separated_decimal (size_of p) (grammar_of p.grammar) (rest_of p) end c.requires.decimals (subst (λ bs. is_number_start (slice_index bs 0) ≡ true) same found.first) (subst (λ bs. IsVerbatimDecimal bs end) same (found.decimal c.if-read.true)) (subst (λ bs. is_break (slice_index bs end) ≡ true) same found.ends));
      asked = search rules;
      advances = search rules;
    }

pub returns : goal.returns
returns c =
    record {
      passes =
          let p = c.args.self.now in
          let end = c.in_ok-read.read.end in
          let same = c.rest.ensures in
          let found = c.in_ok-read.ensures in
          integer_passes p end _ _
          (separated_integer (size_of p) (grammar_of p.grammar) (rest_of p) end (subst (λ bs. is_number_start (slice_index bs 0) ≡ true) same found.first) (subst (λ bs. IsVerbatimInteger bs end) same (found.integer c.if-read.false)) (subst (λ bs. is_break (slice_index bs end) ≡ true) same found.ends));
      asked = search rules;
      advances = search rules;
    }

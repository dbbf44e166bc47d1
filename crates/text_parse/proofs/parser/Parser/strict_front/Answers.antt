use Rattle.std.proofs.Common.{◌≡◌, true, subst, rules}
use Rattle.std.specs.Prelude.{slice_index}
use Rattle.text_scan.specs.Answer.{grammar_of}
use Rattle.jsonb_spec.specs.Parsing.Number.{is_number_start}
use Rattle.text_scan.specs.ShortInteger.{IsVerbatimInteger}
use Rattle.text_scan.specs.StrictFront.{IsFrontOf}
use Rattle.text_parse.specs.Parser.{rest_of, size_of}
use Rattle.text_parse.proofs.Scalars.VerbatimNumbers.{integer_passes, strict_integer}
use Rattle.text_parse.proofs.parser.Parser.strict_front.Goals as goal

pub returns-in-Some-Integer : goal.returns-in-Some-Integer
returns-in-Some-Integer c =
    record {
      passes =
          let p = c.args.self.now in
          let end = c.in-Some-Integer.end in
          let same = c.rest.ensures in
          let found = c.in-Some-Integer.ensures in
          integer_passes p end _ _
          (strict_integer (size_of p) (grammar_of p.grammar) (rest_of p) end c.requires.strict (subst (λ bs. is_number_start (slice_index bs 0) ≡ true) same found.first) (subst (λ bs. IsVerbatimInteger bs end) same (subst (λ front. IsFrontOf c.rest.result.now front) c.in-Some-Integer.field-0-is found.found)));
      asked = search rules;
      advances = search rules;
    }

use Rattle.std.proofs.Common.{◌≢◌, ◌<◌, ap, subst, sym, ◌∙◌, arith, get_or, length, take, rules}
use Rattle.std.proofs.lemmas.List.{get_or-take, length-take-le}
use Rattle.jsonb_spec.specs.Text.StringText.{ArePlain}
use Rattle.jsonb_core.proofs.Strings.PlainTexts.{no_marks}
use Rattle.text_parse.specs.Parser.{rest_of}
use Rattle.jsonb_spec.specs.Parsing.Contents.{IsClear}
use Rattle.text_parse.proofs.Scalars.Contents.{cut_encoded, cut_plain}
use Rattle.text_parse.proofs.parser.Parser.cut_string.Goals as goal

pub returns-clause-cuts : goal.returns-clause-cuts
returns-clause-cuts c =
    let p = c.args.self.now in
    let rest = c.rest-rest.result.now in
    let end = c.in_ok-end.end in
    let is = c.rest-rest.ensures in
    let mark = c.in_ok-end.ensures in
    let before : IsClear 34 rest 0 end = λ k low high.
    subst (λ b. (b ≢ 34) × (b ≢ 92)) (get_or-take end rest k 0 high) (no_marks (take end rest) mark.plain k (omega (arith, high, length-take-le end rest (omega (arith, mark.within))))) in
    let closed = ap (λ u. get_or u end 0) (sym is) ∙ c.if-rest-end-ne34.false in
    let within : end < length (rest_of p) = omega (arith, mark.within, ap length is) in
    record {
      parses = cut_plain p _ 34 end _ within closed c.in_ok-body-2.ensures.cuts (subst (λ u. ArePlain (take end u)) is mark.plain) (subst (λ u. IsClear 34 u 0 end) is before);
      encoded = cut_encoded p _ 34 end _ within closed c.in_ok-body-2.ensures.cuts;
      stays = search rules;
      advances = search rules;
    }

pub returns-clause-cut : goal.returns-clause-cut
returns-clause-cut c =
    let cut = c.in_ok-body-2.ensures.cuts in
    subst ArePlain (ap (take c.in_ok-end.end) c.rest-rest.ensures ∙ sym cut.is) c.in_ok-end.ensures.plain

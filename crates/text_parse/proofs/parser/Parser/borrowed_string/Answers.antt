use Rattle.std.proofs.Common.{◌<◌, ap, subst, sym, ◌∙◌, arith, get_or, length, rules}
use Rattle.text_parse.specs.Parser.{rest_of}
use Rattle.jsonb_spec.specs.Parsing.Contents.{IsClear}
use Rattle.text_scan.specs.Answer.{grammar_of}
use Rattle.text_parse.proofs.Grammars.{cuts_beyond}
use Rattle.text_parse.proofs.Scalars.Contents.{cut_encoded, cut_clear}
use Rattle.text_parse.proofs.parser.Parser.borrowed_string.Goals as goal

pub returns : goal.returns
returns c =
    let p = c.args.self.now in
    let quote = c.args.quote in
    let end = c.in_ok-end.end in
    let mark = c.in_ok-end.ensures in
    let is = c.rest-rest.ensures in
    let closed = ap (λ u. get_or u end 0) (sym is) ∙ c.if-rest-end.false in
    let within : end < length (rest_of p) = omega (arith, mark.within, ap length is) in
    record {
      parses = cut_clear p _ quote end _ within closed c.in_ok-body.ensures.cuts (cuts_beyond c.args.text.now (grammar_of p.grammar) c.requires.cuts c.in_ok-body.ensures.some) (subst (λ u. IsClear quote u 0 end) is mark.before);
      encoded = cut_encoded p _ quote end _ within closed c.in_ok-body.ensures.cuts;
      stays = search rules;
      advances = search rules;
    }

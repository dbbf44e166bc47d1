use Rattle.std.proofs.Common.{◌≡◌, ◌∷◌, [], false, sym, subst, ◌∙◌}
use Rattle.std.proofs.lemmas.Result.{err_from_is_err_and}
use Rattle.jsonb_spec.specs.Grammar.{max_depth}
use Rattle.jsonb_spec.specs.Parsing.Document.{value_at}
use Rattle.text_parse.specs.Frames.{finish_container}
use Rattle.text_parse.specs.Slots.{Fits}
use Rattle.text_parse.specs.Parser.{parse_at, rest_of}
use Rattle.text_parse.proofs.Containers.Frames.{last_of_one}
use Rattle.text_parse.proofs.Steps.Failures.{misses_same}
use Rattle.text_parse.proofs.parser.Parser.parse_container.Goals as goal

pub returns-in_err-finish-clause-parses : goal.returns-in_err-finish-clause-parses
returns-in_err-finish-clause-parses g c held =
    let p = c.args.self.now in
    let h = g.V.Handler in
    let read = c.in_default-parse_open_containers.ensures.parses held in
    let frame = c.in-Some.frame in
    let same : frame ≡ read.0 = last_of_one _ frame read.0 (sym c.in-Some.ensures.items ∙ read.2) in
    let rest = rest_of c.parse_open_containers.new.self in
    let residual = err_from_is_err_and c.from_residual.result c.from_residual.ensures.1 in
    rw (residual.1) (misses_same h.silent c.finish.new.reported (finish_container read.1 rest) (parse_at (λ size mode. value_at size mode max_depth) p) read.5
    (c.in_err-finish.ensures.ended p.buf.now read.1 rest [] [] (subst (λ f. Fits f read.1) (sym same) read.3) (subst (λ f. h.holds p.buf.now c.parse_open_containers.new.sink false (f ∷ []) (read.1 ∷ [])) (sym same) read.4)))

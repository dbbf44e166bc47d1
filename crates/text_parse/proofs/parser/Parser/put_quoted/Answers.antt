use Rattle.std.proofs.Common.{inl}
use Rattle.jsonb_spec.specs.Tree.{string}
use Rattle.jsonb_spec.specs.Tree.Mark.{plain}
use Rattle.text_scan.specs.Answer.{grammar_of}
use Rattle.text_parse.specs.Parser.{rest_of, size_of}
use Rattle.text_parse.specs.Scalars.{text_view}
use Rattle.text_parse.proofs.Scalars.Built.{cut_seen, key_holds, put_so, string_read}
use Rattle.text_parse.proofs.Steps.Advancing.{stays}
use Rattle.text_parse.proofs.parser.Parser.put_quoted.Goals as goal

pub returns-in-Some : goal.returns-in-Some
returns-in-Some g c =
    let p = c.args.self.now in
    let q = c.cut_string.new.self in
    let h = g.V.Handler in
    let cut = c.in-Some in
    let body = (text_view cut.cut).1 in
    let on = c.cut_string.ensures.cuts.advances in
    put_so h on (string plain body) c.put.ensures
    (inl (cut_seen h.sees h.is_verbatim h.preserves c.scalar-string.result cut.cut cut.ensures.cut c.scalar-string.ensures, λ some. key_holds p p q body c.requires.opened.0 (stays p) on c.requires.opened cut.ensures.cuts.encoded))
    (string_read (size_of p) (grammar_of p.grammar) 34 (rest_of p) (plain, body) _ cut.ensures.cuts.parses)

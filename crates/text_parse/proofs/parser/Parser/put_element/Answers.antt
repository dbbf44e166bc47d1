use Rattle.std.proofs.Common.{Ok, inl, sym}
use Rattle.std.proofs.lemmas.Bool.{cond-true}
use Rattle.jsonb_spec.specs.Tree.{null}
use Rattle.text_scan.specs.Answer.{grammar_of}
use Rattle.jsonb_spec.specs.Parsing.Container.{is_left_out}
use Rattle.jsonb_spec.specs.Parsing.Scalar.{scalar_at}
use Rattle.jsonb_spec.specs.Source.{null_source}
use Rattle.jsonb_spec.specs.Mode.{strictness}
use Rattle.text_parse.specs.Parser.{rest_of, size_of}
use Rattle.text_parse.proofs.Scalars.Built.{not_encoded, put_so}
use Rattle.text_parse.proofs.Steps.Advancing.{stays}
use Rattle.text_parse.proofs.parser.Parser.put_element.Goals as goal

pub returns : goal.returns
returns g c =
    let p = c.args.self.now in
    let mode = grammar_of p.grammar in
    put_so g.V.Handler (stays p) null c.put.ensures (inl (c.scalar-null.ensures, not_encoded p.buf.now p.offset null_source))
    (cond-true (is_left_out (strictness mode) (rest_of p)) (Ok (null, rest_of p)) (scalar_at (size_of p) mode (rest_of p)) (sym c.if-not-is_left_out.ensures))

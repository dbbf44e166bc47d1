use Rattle.std.proofs.Common.{◌∙◌, inr, sym}
use Rattle.jsonb_spec.specs.Tree.{string}
use Rattle.text_parse.proofs.Scalars.Built.{put_so}
use Rattle.text_parse.proofs.parser.Parser.put_escaped.Goals as goal

pub returns-in-Some : goal.returns-in-Some
returns-in-Some g c =
    let passed = c.in-Some.ensures.passes in
    put_so g.V.Handler c.json_string.ensures.advances (string passed.mark passed.text) c.put.ensures
    (inr (record { verbatim = c.in-Some.verbatim; is = c.scalar.ensures (sym c.wants.ensures.verbatim ∙ c.in-Some.ensures.asked); holds = passed.holds })) passed.parses

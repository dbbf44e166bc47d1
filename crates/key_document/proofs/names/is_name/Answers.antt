use Rattle.key_document.proofs.NamesLeft.{string_named}
use Rattle.key_document.proofs.names.is_name.Goals as goal

pub returns : goal.returns
returns c = λ ns g t r e.
    string_named ns t r c.in-Some.first.now c.in-Some.text.now c.args.item.now c.in-Some.ensures.cases.0 e c.if-first.false c.is_among.result (λ bytes f. c.is_among.ensures bytes f ns g)

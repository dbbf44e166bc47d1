use Rattle.text_parse.proofs.Scalars.Built.{puts_on, scalar_still}
use Rattle.text_parse.proofs.Steps.Outcomes.{scalar_quoted}
use Rattle.text_parse.proofs.parser.Parser.put_scalar.Goals as goal

pub returns-then-take_byte : goal.returns-then-take_byte
returns-then-take_byte g c =
    let on = c.take_byte.ensures.advances in
    puts_on g.V.Handler on (scalar_quoted c.args.self.now c.take_byte.new.self on c.if-take_byte.ensures.rest) c.put_later_quoted.ensures

pub returns-in-Standard : goal.returns-in-Standard
returns-in-Standard g c = puts_on g.V.Handler c.take_byte.ensures.advances (scalar_still c.args.self.now c.take_byte.new.self c.if-take_byte.ensures.rest) c.put_strict_value.ensures

pub returns-in-Extended : goal.returns-in-Extended
returns-in-Extended g c = puts_on g.V.Handler c.take_byte.ensures.advances (scalar_still c.args.self.now c.take_byte.new.self c.if-take_byte.ensures.rest) c.put_extended_value.ensures

pub returns-in-Extended-2 : goal.returns-in-Extended-2
returns-in-Extended-2 g c = puts_on g.V.Handler c.take_byte.ensures.advances (scalar_still c.args.self.now c.take_byte.new.self c.if-take_byte.ensures.rest) c.put_other_scalar.ensures

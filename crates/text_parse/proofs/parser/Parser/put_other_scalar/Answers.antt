use Rattle.std.proofs.Common.{sym, ◌∙◌}
use Rattle.text_parse.proofs.Scalars.Built.{number_next, puts_on}
use Rattle.text_parse.proofs.Steps.Advancing.{stays}
use Rattle.text_parse.proofs.parser.Parser.put_other_scalar.Goals as goal

pub returns-then-next_begins_number : goal.returns-then-next_begins_number
returns-then-next_begins_number g c =
    puts_on g.V.Handler (stays c.args.self.now) (number_next c.args.self.now (sym c.next_begins_number.ensures ∙ c.if-next_begins_number.true)) c.put_number.ensures

use Rattle.std.proofs.Common.{sym, ◌∙◌}
use Rattle.text_scan.proofs.Numbers.Steps.{unrepresentable_at}
use Rattle.text_parse.proofs.parser.Parser.number_without_integer.Goals as goal

pub returns-in-Ok-clause-fault : goal.returns-in-Ok-clause-fault
returns-in-Ok-clause-fault c =
    unrepresentable_at c.args.self.now.offset c.args.end c.in-Ok.end c.args.self.now.buf.now c.args.bytes.now c.args.self.now.inside c.requires.bytes c.requires.whole c.requires.goes_on (sym c.number_end.ensures.end ∙ c.in-Ok.is) c.in-Ok.ensures.within

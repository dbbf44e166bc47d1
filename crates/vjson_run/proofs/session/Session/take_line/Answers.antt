use Rattle.vjson_run.proofs.Fed.{blank_fed, line_fed}
use Rattle.vjson_run.proofs.session.Session.take_line.Goals as goal

pub returns : goal.returns
returns g c = line_fed g.W.Write.contents c.args.self.now c.take_text.new.self c.args.line.now c.without_end-text.result.now c.is_blank_line.result c.without_end-text.ensures c.is_blank_line.ensures c.if-is_blank_line.false c.take_text.ensures

pub returns-then-is_blank_line : goal.returns-then-is_blank_line
returns-then-is_blank_line g c = blank_fed g.W.Write.contents c.args.self.now c.args.line.now c.without_end-text.result.now c.is_blank_line.result c.without_end-text.ensures c.is_blank_line.ensures c.if-is_blank_line.true

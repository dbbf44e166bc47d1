use Rattle.vjson_run.proofs.Troubled.{advances_nowhere}
use Rattle.vjson_run.proofs.session.Session.stop_out_of_order.Goals as goal

pub returns-else-checks_order : goal.returns-else-checks_order
returns-else-checks_order g c = advances_nowhere g.W.Write.contents c.args.self.now

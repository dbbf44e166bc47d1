use Rattle.std.proofs.Common.{refl}
use Rattle.vjson_run.proofs.Troubled.{advances_flushed}
use Rattle.vjson_run.proofs.session.Session.settle.Goals as goal

pub returns-else-is_some : goal.returns-else-is_some
returns-else-is_some g c = advances_flushed g.W.Write.contents c.args.self.now (record c.args.self.now { out = c.flush_much.new.self })
    (record { options = refl; status = refl; over = refl; lines = refl; last = refl; printed = c.flush_much.ensures.nothing })

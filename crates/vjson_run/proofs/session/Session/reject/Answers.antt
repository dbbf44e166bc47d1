use Rattle.std.proofs.Common.{refl}
use Rattle.vjson_run.proofs.Taken.{prints_same}
use Rattle.vjson_run.proofs.Troubled.{advances_rejected}
use Rattle.vjson_run.proofs.session.Session.reject.Goals as goal

pub returns-then-self : goal.returns-then-self
returns-then-self g c = λ none. advances_rejected g.W.Write.contents c.args.self.now (record c.args.self.now { status = c.status_rejected-self.result; over = c.is_over_rejected-self.result }) c.args.text.now none
    (record { options = refl; printed = prints_same g.W.Write.contents c.args.self.now.out; status = c.status_rejected-self.ensures.others; compared = c.status_rejected-self.ensures.compared; over = c.is_over_rejected-self.ensures })

pub returns : goal.returns
returns g c = λ none. advances_rejected g.W.Write.contents c.args.self.now
    (record c.args.self.now { out = c.flush.new.self; err = c.report_fault.new.err; status = c.status_rejected-self.result; over = c.is_over_rejected-self.result }) c.args.text.now none
    (record { options = refl; printed = c.flush.ensures.nothing; status = c.status_rejected-self.ensures.others; compared = c.status_rejected-self.ensures.compared; over = c.is_over_rejected-self.ensures })

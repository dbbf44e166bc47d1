use Rattle.std.proofs.Common.{[]}
use Rattle.vjson_run.proofs.Lists.{where_false, where_true}
use Rattle.vjson_run.proofs.Troubled.{answered_taken, left_taken, troubles_no_more, with_buffers}
use Rattle.vjson_run.proofs.session.Session.take.Goals as goal

pub returns-clause-ok : goal.returns-clause-ok
returns-clause-ok g c = answered_taken g.W.Write.contents c.args.self.now (record c.args.self.now { buffers = c.is_chosen.new.buffers }) c.answer.new.self c.settle.new.self c.args.text.now (with_buffers c.args.self.now c.is_chosen.new.buffers)
    (where_true _ _ c.in_ok-chosen.chosen c.if-not-chosen.false c.in_ok-chosen.ensures.ok) c.in_ok-answer.ensures.ok c.answer.ensures.calm.options c.settle.ensures.takes

pub returns-then-not-chosen-clause-ok : goal.returns-then-not-chosen-clause-ok
returns-then-not-chosen-clause-ok g c = left_taken g.W.Write.contents c.args.self.now (record c.args.self.now { buffers = c.is_chosen.new.buffers }) c.args.text.now (with_buffers c.args.self.now c.is_chosen.new.buffers)
    (where_false _ _ c.in_ok-chosen.chosen c.if-not-chosen.true c.in_ok-chosen.ensures.ok)

pub returns-clause-calm : goal.returns-clause-calm
returns-clause-calm g c = troubles_no_more c.args.self.now c.answer.new.self c.settle.new.self [] (record { options = c.answer.ensures.calm.options; only = c.answer.ensures.calm.only }) c.settle.ensures.troubles

use Rattle.text_write.proofs.SinkObjects.{ended, if_none, if_some}
use Rattle.text_write.proofs.text.TextSinkSink.end_object.Goals as goal

pub returns-then-is_some-clause-holds : goal.returns-then-is_some-clause-holds
returns-then-is_some-clause-holds c = λ text held fs key offset cs sink.
    if_some text c.args.self.now c.settle.new.self fs held cs c.in_ok-repeat.repeat c.if-is_some.ensures (c.in_ok-repeat.ensures.repeat text held fs key offset cs sink)

pub returns-clause-holds : goal.returns-clause-holds
returns-clause-holds c = λ text held fs key offset cs sink.
    ended sink c.in_ok-repeat.ensures.same (if_none c.args.self.now c.settle.new.self fs cs c.in_ok-repeat.repeat c.if-is_some.ensures (c.in_ok-repeat.ensures.repeat text held fs key offset cs sink)) c.in_ok-close.ensures.end

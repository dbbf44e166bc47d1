use Rattle.std.proofs.Common.{append-nil}
use Rattle.text_write.proofs.SinkMembers.{value_holds}
use Rattle.text_write.proofs.Sinks.{unchanged}
use Rattle.text_write.proofs.text.TextSinkSink.insert_inner.Goals as goal

pub returns-clause-holds : goal.returns-clause-holds
returns-clause-holds c = λ text s held fs k offset cs next other sink. value_holds s next other sink (unchanged c.args.self.now) (append-nil _)

use Rattle.std.proofs.Common.{append-nil}
use Rattle.text_write.proofs.Keys.KeySinks.{goes_on}
use Rattle.text_write.proofs.Keys.OpenKeys.{array_ended}
use Rattle.text_members.proofs.Outcomes.{on_ok}
use Rattle.text_write.proofs.key.KeySinkSink.end_array.Goals as goal

pub returns-clause-holds : goal.returns-clause-holds
returns-clause-holds c =
    on_ok c.append.result c.append.ensures.bytes (λ w text held ss cs sink. goes_on sink w (array_ended ss cs) (append-nil _) sink.fits)

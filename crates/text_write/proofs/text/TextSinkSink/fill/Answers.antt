use Rattle.text_members.proofs.Outcomes.{on_ok}
use Rattle.text_write.proofs.Sinks.{part_written, value_written}
use Rattle.text_write.proofs.text.TextSinkSink.fill.Goals as goal

pub returns-clause-holds : goal.returns-clause-holds
returns-clause-holds c =
    on_ok c.part.result c.part.ensures.bytes (λ wrote text s held cs sink sees encoded.
    value_written s sink (part_written c.args.part.now s c.args.from c.args.to sink sees encoded wrote))

use Rattle.std.proofs.Common.{subst, sym}
use Rattle.text_common.specs.VerbatimScalar.{IsVerbatimAt}
use Rattle.text_members.proofs.Outcomes.{on_ok}
use Rattle.text_write.proofs.Sinks.{value_written}
use Rattle.text_write.proofs.text.TextSinkSink.fill_verbatim.Goals as goal

pub returns-clause-holds : goal.returns-clause-holds
returns-clause-holds c =
    on_ok c.verbatim.result c.verbatim.ensures.bytes (λ wrote text s held cs sink there.
    value_written s sink (wrote s (subst (λ t. IsVerbatimAt c.args.verbatim t c.args.from c.args.to s) (sym sink.text_is) there)))

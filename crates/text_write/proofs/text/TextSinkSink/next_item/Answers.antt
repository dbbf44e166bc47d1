use Rattle.std.proofs.Common.{subst, sym}
use Rattle.jsonb_spec.specs.Text.SoFar.{comma_unless}
use Rattle.text_write.specs.TextSink.{Writes}
use Rattle.text_write.proofs.Sinks.{comma_written, unchanged}
use Rattle.text_write.proofs.text.TextSinkSink.next_item.Goals as goal

pub returns-then-is_first-clause-holds : goal.returns-then-is_first-clause-holds
returns-then-is_first-clause-holds c = λ text held ss cs sink. comma_written c.args.is_first.now sink (subst (λ b. Writes (comma_unless b) c.args.self.now c.args.self.now) (sym c.if-is_first.true) (unchanged c.args.self.now))

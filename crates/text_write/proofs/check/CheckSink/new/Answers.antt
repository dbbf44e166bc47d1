use Rattle.text_write.specs.CheckSink.{unwritten}
use Rattle.text_write.proofs.check.CheckSink.new.Goals as goal

pub returns : goal.returns
returns c = record { holds = record { members = c.new.ensures unwritten; fits = tt } }

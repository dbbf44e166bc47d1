use Rattle.text_write.proofs.PartSinks.{alone_around, alone_in, verbatim_alone}
use Rattle.text_members.proofs.Outcomes.{on_ok}
use Rattle.text_write.proofs.part.PartSinkSink.fill_verbatim.Goals as goal

pub returns-then-not-is_written-clause-holds : goal.returns-then-not-is_written-clause-holds
returns-then-not-is_written-clause-holds c = λ text s held cs sink at. alone_around s c.if-not-is_written.ensures (verbatim_alone c.args.verbatim text c.args.from c.args.to s at) sink

pub returns-clause-holds : goal.returns-clause-holds
returns-clause-holds c =
    on_ok c.end_inner.result c.end_inner.ensures.holds (λ ends text s held cs sink at.
    ends text s held cs (alone_in c.in_ok-self.field-0 c.in_ok-self.ensures (λ hs ds holds_so. c.in_ok-fill_verbatim.ensures.holds text s hs ds holds_so at) sink c.if-not-is_written.ensures))

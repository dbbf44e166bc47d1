use Rattle.text_write.proofs.PartSinks.{part_ends}
use Rattle.text_write.proofs.part.PartSink.finish.Goals as goal

pub returns-clause-holds : goal.returns-clause-holds
returns-clause-holds c = λ text s held cs inner one. part_ends one c.finish.ensures.base c.in_ok-finish.ensures.ok inner

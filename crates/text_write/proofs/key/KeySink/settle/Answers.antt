use Rattle.std.proofs.Common.{refl}
use Rattle.text_write.proofs.Keys.KeyObjects.{in_order, same_members, settled}
use Rattle.text_write.proofs.key.KeySink.settle.Goals as goal

pub returns-then-ascend-clause-same : goal.returns-then-ascend-clause-same
returns-then-ascend-clause-same c = same_members c.args.self.now

pub returns-then-ascend-clause-repeat : goal.returns-then-ascend-clause-repeat
returns-then-ascend-clause-repeat c = λ text held fs key offset cs sink. in_order sink (c.if-ascend.ensures refl)

pub returns-clause-repeat : goal.returns-clause-repeat
returns-clause-repeat c = settled c.args.self.now _ c.args.first c.put_in_order.result c.put_in_order.ensures.order

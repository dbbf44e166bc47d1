use Rattle.text_members.proofs.Fronts.{extends_on, first_of_both, first_stay}
use Rattle.text_write.proofs.written.Written.settle.Goals as goal

pub returns-in_err-flush-clause-retained : goal.returns-in_err-flush-clause-retained
returns-in_err-flush-clause-retained c = first_stay c.args.floor c.args.self.now.out.items c.flush.new.self.out.items c.flush.ensures.retained

pub returns-clause-retained : goal.returns-clause-retained
returns-clause-retained c =
    extends_on (first_of_both c.args.floor c.args.self.now.out.items c.flush.new.self.out.items c.flush.ensures.retained) c.put_in_order.ensures.retained

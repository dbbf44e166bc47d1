use Rattle.key_document.proofs.Retained.{pass_goes, pass_stays}
use Rattle.key_document.proofs.retain.pass_bytes.Goals as goal

pub returns-then-not-goes-clause-passed : goal.returns-then-not-goes-clause-passed
returns-then-not-goes-clause-passed c = λ first bytes counts one one_counts ahead_counts later later_counts old e each s.
    pass_stays first bytes counts old one one_counts c.args.here.now c.args.behind.now ahead_counts later later_counts c.args.retaining.now c.args.out.now c.args.out.now e each c.args.goes c.if-not-goes.true s

pub returns-clause-passed : goal.returns-clause-passed
returns-clause-passed c = λ first bytes counts one one_counts ahead_counts later later_counts old e each s.
    pass_goes first bytes counts old one one_counts c.args.here.now c.args.behind.now ahead_counts later later_counts c.args.retaining.now c.args.out.now c.write_up_to.new.out e each c.args.goes c.if-not-goes.false c.write_up_to.result s
    (c.write_up_to.ensures.written first bytes counts one one_counts ahead_counts later later_counts old e each)

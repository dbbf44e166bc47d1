use Rattle.std.proofs.Common.{◌∙◌, ◌-◌, ap, arith, drop, take}
use Rattle.text_write.proofs.DecimalKeys.{not_empty}
use Rattle.text_write.proofs.key.KeySink.decimal.Goals as goal

pub returns-then-from-to-clause-bytes : goal.returns-then-from-to-clause-bytes
returns-then-from-to-clause-bytes c = λ n inside short text.
    absurd (not_empty n short (ap (λ k. take k (drop c.args.from c.args.self.now.members.text.now)) {x = 0} {y = c.args.to - c.args.from} (omega (arith, c.if-from-to.true)) ∙ text))

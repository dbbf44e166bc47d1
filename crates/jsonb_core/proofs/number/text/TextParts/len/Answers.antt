use Rattle.std.proofs.Common.{arith}
use Rattle.jsonb_core.proofs.Numbers.Pointed.{length-joined}
use Rattle.jsonb_core.proofs.number.text.TextParts.len.Goals as goal

pub overflow_add-result-2 : goal.overflow_add-result-2
overflow_add-result-2 c = omega (arith, length-joined c.args.self.now)

pub overflow_add-result-3 : goal.overflow_add-result-3
overflow_add-result-3 c = omega (arith, length-joined c.args.self.now)

pub overflow_add-result-4 : goal.overflow_add-result-4
overflow_add-result-4 c = omega (arith, length-joined c.args.self.now)

pub returns : goal.returns
returns c = omega (arith, length-joined c.args.self.now)

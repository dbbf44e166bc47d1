use Rattle.std.proofs.Common.{arith}
use Rattle.jsonb.proofs.EndZeros.Marks.{mark_found}
use Rattle.jsonb.proofs.parser.zeros.first_mark.Goals as goal

pub returns-in_err-mark : goal.returns-in_err-mark
returns-in_err-mark c = absurd (omega (arith, c.in_err-mark.ensures.cases, c.split_at.ensures.back_len, c.in-Some.ensures.0.high))

pub returns : goal.returns
returns c =
    mark_found c.args.bytes.now c.split_at.result.0.now c.split_at.result.1.now c.in-Some.index c.in_ok-mark.mark.now c.in_ok-mark.behind.now c.in-Some.ensures c.split_at.ensures.front c.split_at.ensures.back c.split_at.ensures.by_index.0
    c.in_ok-mark.ensures.cases.0

use Rattle.std.proofs.Common.{rules, arith, ◌-ℤ◌}
use Rattle.std.proofs.lemmas.Int.{ints}
use Rattle.jsonb_core.proofs.Numbers.Integers.{IsDifference-from}
use Rattle.jsonb_core.proofs.number.Number.sub.Goals as goal

pub returns : goal.returns
returns c =
    IsDifference-from _ _ _ _ _ _ _ c.in-Some.ensures.kind c.in-Some.ensures.left c.in-Some.ensures.right c.difference_overflow.ensures
    (c.int64_or.ensures (c.in-Some.field-0.left -ℤ c.in-Some.field-0.right) (search rules, omega (arith, ints, c.in-Some.ensures.small)))

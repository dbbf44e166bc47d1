use Rattle.std.proofs.Common.{sym}
use Rattle.jsonb_core.proofs.SortKeys.Counts.{digit_count-is}
use Rattle.jsonb_core.proofs.number.sort_key.digit_count.Goals as goal

pub returns-clause-count : goal.returns-clause-count
returns-clause-count c =
    sym (digit_count-is c.args.magnitude c.ilog10.result c.ilog10.ensures.power_le c.ilog10.ensures.next_power_gt c.ilog10.ensures.bound)

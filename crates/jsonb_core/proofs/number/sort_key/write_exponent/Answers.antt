use Rattle.std.proofs.Common.{arith}
use Rattle.jsonb_core.proofs.SortKeys.Pairs.{near_exponent, far_exponent}
use Rattle.jsonb_core.proofs.number.sort_key.write_exponent.Goals as goal

pub returns-then-exponent-lt225-clause-bytes : goal.returns-then-exponent-lt225-clause-bytes
returns-then-exponent-lt225-clause-bytes c =
    near_exponent c.args.negative c.args.exponent c.args.end c.invert_if.result c.invert_if-then-exponent-lt225.result c.args.row.now c.told-row c.requires.space.0 c.requires.space.1 c.if-exponent-lt225.true c.invert_if.ensures c.invert_if-then-exponent-lt225.ensures

pub returns-clause-bytes : goal.returns-clause-bytes
returns-clause-bytes c =
    far_exponent c.args.negative c.args.exponent c.args.end c.invert_if-2.result c.args.row.now c.told-row (omega (arith, c.requires.space)) c.requires.space.1 c.if-exponent-lt225.false c.invert_if-2.ensures

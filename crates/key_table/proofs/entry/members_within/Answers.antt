use Rattle.std.proofs.Common.{arith}
use Rattle.key_table.proofs.Walking.{leaves_members}
use Rattle.key_table.proofs.entry.members_within.Goals as goal

pub returns-clause-members : goal.returns-clause-members
returns-clause-members c = λ t r e.
    leaves_members t r c.args.key.now e (omega (arith, c.if-key-lt-LEAST_KEY.false)) (omega (arith, c.if-key-gt-MOST_KEY.false)) c.members_of.result c.members_of.ensures.object c.members_of.ensures.some

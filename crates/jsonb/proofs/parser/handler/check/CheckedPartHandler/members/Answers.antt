use Rattle.std.proofs.Common.{[], map}
use Rattle.jsonb_spec.specs.Tree.Mark.{plain}
use Rattle.jsonb.specs.Held.{key_held}
use Rattle.jsonb.proofs.parser.handler.check.CheckedPartHandler.members.Goals as goal

pub returns-clause-opened : goal.returns-clause-opened
returns-clause-opened g c = λ text fs cs held. c.begin_object-members.ensures.holds text (map key_held fs) cs (plain, []) 0 held

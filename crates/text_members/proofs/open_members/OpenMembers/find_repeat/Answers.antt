use Rattle.std.proofs.Common.{map, refl}
use Rattle.jsonb_spec.specs.Source.{spot_of}
use Rattle.text_members.proofs.Objects.Ascending.{ascending_new}
use Rattle.text_members.proofs.OpenMembers.{ascending}
use Rattle.text_members.proofs.open_members.OpenMembers.find_repeat.Goals as goal

pub returns-then-ascend-clause-repeat : goal.returns-then-ascend-clause-repeat
returns-then-ascend-clause-repeat c = λ commas bytes start fs own. ascending_new (map spot_of fs) (ascending commas bytes c.args.self.now c.args.first start fs own (c.if-ascend.ensures refl))

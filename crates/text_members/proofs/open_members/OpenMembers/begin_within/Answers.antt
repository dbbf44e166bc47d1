use Rattle.std.proofs.Common.{refl}
use Rattle.text_members.proofs.Outcomes.{on_ok}
use Rattle.text_members.proofs.open_members.OpenMembers.begin_within.Goals as goal

pub returns : goal.returns
returns c =
    on_ok c.preserve.result c.preserve.ensures (λ has ordered inside. record {
      member = _;
      keys = _;
      has = has;
      retained = record { spot = refl; starts = refl; keyed = c.prefix_within.ensures ordered inside; within = λ e. absurd cc };
    })

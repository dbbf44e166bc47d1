use Rattle.std.proofs.Common.{[], inr}
use Rattle.jsonb_spec.specs.PartAt.{part_at}
use Rattle.jsonb_c.proofs.KeyParts.{all_of_it}
use Rattle.jsonb_c.proofs.key.vizhoniku_key_part.Goals as goal

pub returns-in-Some-clause-found : goal.returns-in-Some-clause-found
returns-in-Some-clause-found c = λ t k names is_path.
    inr (c.report_range.ensures.found (part_at names t) (c.in-Some.ensures.found t k.readable [] (all_of_it c.args.key.now t k) names is_path))

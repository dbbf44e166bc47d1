use Rattle.std.proofs.Common.{[], ap, ◌∙◌}
use Rattle.jsonb_c.specs.KeyParts.{kind_number}
use Rattle.jsonb_c.proofs.KeyParts.{all_of_it}
use Rattle.jsonb_c.proofs.key.vizhoniku_key_kind.Goals as goal

pub returns-clause-kind : goal.returns-clause-kind
returns-clause-kind c = λ t k. c.kind_number.ensures ∙ ap kind_number (c.kind_of.ensures.kind t k.readable [] (all_of_it c.args.key.now t k))

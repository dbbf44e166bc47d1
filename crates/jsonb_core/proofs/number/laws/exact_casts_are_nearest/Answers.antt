use Rattle.jsonb_core.proofs.Numbers.Nearest.{exact_is_nearest}
use Rattle.jsonb_core.proofs.number.laws.exact_casts_are_nearest.Goals as goal

pub returns : goal.returns
returns c = λ x n. exact_is_nearest x.scale x.whole n

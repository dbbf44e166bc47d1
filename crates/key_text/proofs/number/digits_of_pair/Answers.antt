use Rattle.std.proofs.Common.{◌+◌, ◌*◌, get_or, ap, ◌∙◌}
use Rattle.key_text.specs.declared.number.TheConstants.{PAIRS}
use Rattle.key_text.proofs.Pairs.{tens_at, ones_at}
use Rattle.key_text.proofs.number.digits_of_pair.Goals as goal

pub returns : goal.returns
returns c = λ below. (
  ap (λ k. get_or PAIRS (k * 2) 0) c.from-from.ensures ∙ tens_at c.args.pair below,
  ap (λ k. get_or PAIRS (k * 2 + 1) 0) c.from-from.ensures ∙ ones_at c.args.pair below,
)

use Rattle.std.proofs.Common.{rules, ◌∙◌}
use Rattle.jsonb_core.proofs.Numbers.Pointed.{unsigned_is_text}
use Rattle.jsonb_core.proofs.number.text.unsigned_text.Goals as goal

pub returns-clause-text : goal.returns-clause-text
returns-clause-text c = c.format.ensures.text ∙ unsigned_is_text c.args.n (search rules)

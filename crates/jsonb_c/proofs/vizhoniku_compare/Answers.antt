use Rattle.std.proofs.Common.{◌∙◌, inr, rules}
use Rattle.std.proofs.lemmas.Int.{to_z-of_z}
use Rattle.std.specs.Int.{w32}
use Rattle.std.specs.Prelude.{FitsSigned}
use Rattle.jsonb_c.proofs.Keys.{keys_ordered}
use Rattle.jsonb_c.proofs.Reasons.{memory_wanting_of_two}
use Rattle.jsonb_c.proofs.vizhoniku_compare.Goals as goal

pub returns-in-Err-clause-accepted : goal.returns-in-Err-clause-accepted
returns-in-Err-clause-accepted c = λ first second.
    inr (c.report.ensures.status ∙ memory_wanting_of_two c.args.mode c.args.left.now c.args.right.now c.in-Err.rejected c.in-Err.ensures.orders.reason first second)

pub returns-in-Ok-clause-keys : goal.returns-in-Ok-clause-keys
returns-in-Ok-clause-keys c accepted key other k l =
    let fits : FitsSigned w32 c.sign.result = search rules in
    to_z-of_z w32 c.sign.result fits ∙ c.sign.ensures ∙ keys_ordered c.args.mode c.args.left.now c.args.right.now key other _ c.in-Ok.ensures.orders.ordered k l

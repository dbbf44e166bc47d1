use Rattle.std.proofs.Common.{rules, ◌∙◌, inr}
use Rattle.jsonb_c.proofs.Reasons.{memory_wanting}
use Rattle.jsonb_c.proofs.vizhoniku_check.Goals as goal

pub returns-in-Err-clause-accepts : goal.returns-in-Err-clause-accepts
returns-in-Err-clause-accepts c = record {
  document = search rules;
  accepted = λ accepted.
      inr (c.report.ensures.status ∙ memory_wanting c.args.mode c.args.text.now c.in-Err.rejected c.in-Err.ensures.fails.reason accepted);
}

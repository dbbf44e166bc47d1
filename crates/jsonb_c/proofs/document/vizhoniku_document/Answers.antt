use Rattle.std.proofs.Common.{rules, ◌∙◌, inr}
use Rattle.jsonb_c.proofs.Reasons.{memory_wanting}
use Rattle.jsonb_c.proofs.document.vizhoniku_document.Goals as goal

pub returns-in-Err-clause-status : goal.returns-in-Err-clause-status
returns-in-Err-clause-status c = record {
  known = search rules;
  mode = search rules;
  accepted = λ accepted.
      inr (inr (c.report.ensures.status ∙ memory_wanting c.args.mode c.args.text.now c.in-Err.rejected c.in-Err.ensures.fails.reason accepted));
  memory = search rules;
}

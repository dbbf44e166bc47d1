use Rattle.std.proofs.Common.{subst, ◌∙◌, inr}
use Rattle.jsonb_c.specs.Interface.{IsPartAnswer}
use Rattle.jsonb_c.proofs.Parts.{disagree, has_accepted, lacks_accepted}
use Rattle.jsonb_c.proofs.Reasons.{memory_wanting}
use Rattle.jsonb_c.proofs.vizhoniku_part.Goals as goal

pub returns-in-Ok-Text-clause-nothing_there : goal.returns-in-Ok-Text-clause-nothing_there
returns-in-Ok-Text-clause-nothing_there c = λ lacks.
    let is_part = subst (IsPartAnswer c.args.mode c.args.path.now c.args.text.now) c.in-Ok-Text.field-0-is c.in-Ok-Text.ensures.part in
    absurd (disagree c.args.mode c.args.path.now c.args.text.now is_part.found lacks)

pub returns-in-Ok-Nothing-clause-accepted : goal.returns-in-Ok-Nothing-clause-accepted
returns-in-Ok-Nothing-clause-accepted c = λ has.
    absurd (disagree c.args.mode c.args.path.now c.args.text.now has (subst (IsPartAnswer c.args.mode c.args.path.now c.args.text.now) c.in-Ok-Nothing.field-0-is c.in-Ok-Nothing.ensures.part))

pub returns-in-Err-clause-accepted : goal.returns-in-Err-clause-accepted
returns-in-Err-clause-accepted c = λ has.
    inr (inr (c.report.ensures.status ∙ memory_wanting c.args.mode c.args.text.now c.in-Err.rejected c.in-Err.ensures.fails.reason (has_accepted c.args.mode c.args.path.now c.args.text.now has)))

pub returns-in-Err-clause-nothing_there : goal.returns-in-Err-clause-nothing_there
returns-in-Err-clause-nothing_there c = λ lacks.
    inr (c.report.ensures.status ∙ memory_wanting c.args.mode c.args.text.now c.in-Err.rejected c.in-Err.ensures.fails.reason (lacks_accepted c.args.mode c.args.path.now c.args.text.now lacks))

pub returns-in-Err-clause-wrong_path : goal.returns-in-Err-clause-wrong_path
returns-in-Err-clause-wrong_path c = λ accepted none.
    inr (c.report.ensures.status ∙ memory_wanting c.args.mode c.args.text.now c.in-Err.rejected c.in-Err.ensures.fails.reason accepted)
